-- The log entry of each typed call and its result: what number and value each case stands for. Assumes nothing.
use Rattle.std.specs.Prelude.{◌≡◌, ℕ, List, ◌++◌, take, drop, Ok, Err, Result}
use Rattle.subject.specs.declared.refusal.Refusal.{Refusal}
use Rattle.subject.specs.Refusals.{number_of}
use Rattle.subject.specs.Logs.{Entry, Answer, try, strike, back, look, begin, end, next, count, bits, refused, plan, none, done}
use Rattle.planner.specs.declared.step.Step.{Step}
use Rattle.planner.specs.declared.step.Step.TheVariants.{Plan, NoPlan}

-- try, strike and back answer how many options are open
abbrev pub counts : Result ℕ Refusal → Answer
counts (Ok n) = count n
counts (Err e) = refused (number_of e)

-- look answers which options of the slot are
abbrev pub shows : Result ℕ Refusal → Answer
shows (Ok n) = bits n
shows (Err e) = refused (number_of e)

abbrev pub try_entry : ℕ → ℕ → Result ℕ Refusal → Entry
try_entry s o r = record { call = try s o; answer = counts r }

abbrev pub strike_entry : ℕ → ℕ → Result ℕ Refusal → Entry
strike_entry s o r = record { call = strike s o; answer = counts r }

abbrev pub back_entry : Result ℕ Refusal → Entry
back_entry r = record { call = back; answer = counts r }

abbrev pub look_entry : ℕ → Result ℕ Refusal → Entry
look_entry s r = record { call = look s; answer = shows r }

abbrev pub begin_entry : Entry
begin_entry = record { call = begin; answer = done }

abbrev pub end_entry : Entry
end_entry = record { call = end; answer = done }

-- next answers a plan, which is p, or that there is none left
abbrev pub gives : List ℕ → Result Step Refusal → Answer
gives p (Ok (Plan n)) = plan p
gives p (Ok NoPlan) = none
gives p (Err e) = refused (number_of e)

abbrev pub next_entry : ℕ → List ℕ → Result Step Refusal → Entry
next_entry n p r = record { call = next n; answer = gives p r }

-- What a plan memory holds after next, where there are n slots: where a plan was given its first n bytes are the
-- plan's, and all others are as before.
abbrev pub written : ℕ → Result Step Refusal → List ℕ → List ℕ → List ℕ
written n (Ok (Plan k)) before after = take n after ++ drop n before
written n (Ok NoPlan) before after = before
written n (Err e) before after = before

-- a plan that was given has n options
abbrev pub Sized : ℕ → Result Step Refusal → Type 0
Sized n (Ok (Plan k)) = k ≡ n
Sized n (Ok NoPlan) = Unit {0}
Sized n (Err e) = Unit {0}
