-- Calls, answers and logs: what stands after a list of calls, and what a call is answered then. Assumes nothing.
use Rattle.std.specs.Prelude.{◌≡◌, ℕ, ◌/◌, ◌%◌, ◌^◌, ◌<◌, ◌≤◌, Bool, true, false, ◌⊎◌, ◌↔◌, List, [], ◌∷◌, map, length, slice_index}
use Rattle.subject.specs.Problem.{Problem, Real}
use Rattle.subject.specs.Decisions.{Decision, tried, struck, Open, OpenCount, tries, undone}
use Rattle.subject.specs.Plans.{Plan, First, NoMore}

-- try and strike have a slot and an option, look has a slot, next has the length of the plan memory
pub data Call : Type 0 where
  try strike : ℕ → ℕ → Call
  back begin end : Call
  look next : ℕ → Call

-- how many options are open; which options of a slot are, as bits; the number of a refusal; a plan; that there is none
-- left; and that a walk has begun or ended
pub data Answer : Type 0 where
  count bits refused : ℕ → Answer
  plan : Plan → Answer
  none done : Answer

pub record Entry : Type 0 where
  pub call : Call
  pub answer : Answer

-- all calls made of one planner since it was opened, with the answer to each, the newest first
abbrev pub Log : Type 0
Log = List Entry

abbrev pub calls : Log → List Call
calls L = map (λ e. e.call) L

-- The call is refused while the decisions D stand, by the first of its refusals that applies.
pub data Refuses (P : Problem) (D : List Decision) : Call → ℕ → Type 0 where
  try_no_slot : {s o : ℕ} → length P.sizes ≤ s → Refuses P D (try s o) 21
  try_no_option : {s o : ℕ} → s < length P.sizes → slice_index P.sizes s ≤ o → Refuses P D (try s o) 22
  try_shut : {s o : ℕ} → Real P s o → (Open P D s o → ⊥) → Refuses P D (try s o) 23
  try_full : {s o : ℕ} → Open P D s o → 16 ≤ tries D → Refuses P D (try s o) 24
  strike_no_slot : {s o : ℕ} → length P.sizes ≤ s → Refuses P D (strike s o) 21
  strike_no_option : {s o : ℕ} → s < length P.sizes → slice_index P.sizes s ≤ o → Refuses P D (strike s o) 22
  strike_shut : {s o : ℕ} → Real P s o → (Open P D s o → ⊥) → Refuses P D (strike s o) 23
  back_none : tries D ≡ 0 → Refuses P D back 25
  look_no_slot : {s : ℕ} → length P.sizes ≤ s → Refuses P D (look s) 21
  next_short : {n : ℕ} → n < length P.sizes → Refuses P D (next n) 26

-- what a call that is not refused makes of the decisions
abbrev pub decided : Call → List Decision → List Decision
decided (try s o) D = tried s o ∷ D
decided (strike s o) D = struck s o ∷ D
decided back D = undone D
decided begin D = D
decided end D = D
decided (look s) D = D
decided (next n) D = D

-- what stands after one more call: the same where it is refused, else what it makes of them
abbrev pub Then : Problem → List Decision → Call → List Decision → Type 0
Then P D c E = ((n : ℕ) × Refuses P D c n × (E ≡ D)) ⊎ (((n : ℕ) → Refuses P D c n → ⊥) × (E ≡ decided c D))

-- the decisions that stand after a list of calls, the newest first; no answer has a say
abbrev pub Standing : Problem → List Call → List Decision → Type 0
Standing P [] E = E ≡ []
Standing P (c ∷ C) E = (D : List Decision) × Standing P C D × Then P D c E

-- whether a walk is under way
abbrev pub walking : Log → Bool
walking [] = false
walking (e ∷ L) = elim e.call [ try s o ↦ walking L | strike s o ↦ walking L | back ↦ walking L | begin ↦ true | end ↦ false | look s ↦ walking L | next n ↦ walking L ]

-- the plans given since the last begin, the newest first
abbrev pub given : Log → List Plan
given [] = []
given (e ∷ L) = elim e.call [ try s o ↦ given L | strike s o ↦ given L | back ↦ given L | begin ↦ [] | end ↦ given L | look s ↦ given L | next n ↦ elim e.answer [ count m ↦ given L | bits m ↦ given L | refused m ↦ given L | plan p ↦ p ∷ given L | none ↦ given L | done ↦ given L ] ]

-- bit o of a number is one
abbrev pub Bit : ℕ → ℕ → Type 0
Bit m o = (m / 2 ^ o) % 2 ≡ 1

-- The answer to a call, while the decisions D stand and the plans G were given since the last begin.
pub data Reckoned (P : Problem) (D : List Decision) (G : List Plan) : Call → Answer → Type 0 where
  refuses : {c : Call} {n : ℕ} → Refuses P D c n → Reckoned P D G c (refused n)
  try_done : {s o n : ℕ} → Open P D s o → tries D < 16 → OpenCount P (tried s o ∷ D) n → Reckoned P D G (try s o) (count n)
  strike_done : {s o n : ℕ} → Open P D s o → OpenCount P (struck s o ∷ D) n → Reckoned P D G (strike s o) (count n)
  back_done : {n : ℕ} → 0 < tries D → OpenCount P (undone D) n → Reckoned P D G back (count n)
  look_done : {s m : ℕ} → s < length P.sizes → m < 2 ^ 32 → ((o : ℕ) → Bit m o ↔ Open P D s o) → Reckoned P D G (look s) (bits m)
  begin_done : Reckoned P D G begin done
  end_done : Reckoned P D G end done
  next_plan : {n : ℕ} {p : Plan} → length P.sizes ≤ n → First P D G p → Reckoned P D G (next n) (plan p)
  next_none : {n : ℕ} → length P.sizes ≤ n → NoMore P D G → Reckoned P D G (next n) none
