-- Lines and replies, and the log that they come to. Assumes nothing.
use Rattle.std.specs.Prelude.{◌≡◌, ℕ, zero, suc, ◌≤◌, not, List, ◌∷◌, ◌++◌, length, drop, Some, None, Ok, Err, Option, slice_index_or}
use Rattle.subject.specs.declared.call.Call.{Call}
use Rattle.subject.specs.declared.call.Call.TheVariants.{Try, Strike, Back, Look, Begin, Next, End}
use Rattle.subject.specs.declared.answer.Answer.{Answer}
use Rattle.subject.specs.declared.answer.Answer.TheVariants.{Count, Options, Plan, NoPlan, Done}
use Rattle.subject.specs.declared.denial.Denial.TheVariants.{Refused, NotPossible}
use Rattle.subject.specs.Refusals.{number_of, denial_number}
use Rattle.subject.specs.Wording.{Reply, chosen}
use Rattle.subject.specs.Logs as Logs
use Rattle.subject.specs.Logs.{Log, walking}
use Rattle.subject.specs.Law.{inside}

-- the call, where the plan memory has n bytes
abbrev pub called : ℕ → Call → Logs.Call
called n (Try s o) = Logs.try s o
called n (Strike s o) = Logs.strike s o
called n Back = Logs.back
called n (Look s) = Logs.look s
called n Begin = Logs.begin
called n Next = Logs.next n
called n End = Logs.end

-- the answer: its number, its bits, or its plan
abbrev pub answer_of : Answer → Logs.Answer
answer_of (Count n) = Logs.count n
answer_of (Options n) = Logs.bits n
answer_of (Plan p) = Logs.plan (chosen p)
answer_of NoPlan = Logs.none
answer_of Done = Logs.done

-- the log with one line more: a call that was answered is entered, any other line is not
abbrev pub entered : ℕ → Option Call → Reply → Log → Log
entered n None r L = L
entered n (Some c) (Ok a) L = record { call = called n c; answer = answer_of a } ∷ L
entered n (Some c) (Err (Refused e)) L = record { call = called n c; answer = Logs.refused (number_of e) } ∷ L
entered n (Some c) (Err NotPossible) L = L

-- the log of the first k lines, over an earlier one
abbrev pub logged : ℕ → List (Option Call) → List Reply → ℕ → Log → Log
logged n lines replies zero L = L
logged n lines replies (suc k) L = entered n (slice_index_or lines k None) (slice_index_or replies k (Err NotPossible)) (logged n lines replies k L)

-- the reply is the denial of that number
abbrev pub Denied : ℕ → Reply → Type 0
Denied n (Ok a) = ⊥
Denied n (Err d) = denial_number d ≡ n

-- A line is not possible exactly where it is no call, or a call that has no place then: next and end are made in a walk,
-- all others outside.
abbrev pub Fitting : Option Call → Reply → Log → Type 0
Fitting None r L = Denied 41 r
Fitting (Some c) (Ok a) L = walking L ≡ inside (called 0 c)
Fitting (Some c) (Err (Refused e)) L = walking L ≡ inside (called 0 c)
Fitting (Some c) (Err NotPossible) L = walking L ≡ not (inside (called 0 c))

-- the plan memory after a reply: where a plan was given its options stand in front, and the other bytes stay
abbrev pub overlaid : Reply → List ℕ → List ℕ
overlaid (Ok (Count n)) m = m
overlaid (Ok (Options n)) m = m
overlaid (Ok (Plan p)) m = chosen p ++ drop (length (chosen p)) m
overlaid (Ok NoPlan) m = m
overlaid (Ok Done) m = m
overlaid (Err d) m = m

-- and after the first k replies
abbrev pub remembered : List Reply → ℕ → List ℕ → List ℕ
remembered replies zero m = m
remembered replies (suc k) m = overlaid (slice_index_or replies k (Err NotPossible)) (remembered replies k m)

-- the first k replies were written, and the memory is as they say; the other replies are as before
pub record Kept (k : ℕ) (before after : List Reply) (m m' : List ℕ) : Type 0 where
  pub long : length after ≡ length before
  pub past : (i : ℕ) → k ≤ i → slice_index_or after i (Err NotPossible) ≡ slice_index_or before i (Err NotPossible)
  pub memory : m' ≡ remembered after k m
