-- The law of logs. Assumes nothing.
use Rattle.std.specs.Prelude.{◌≡◌, ℕ, Bool, true, false, ◌↔◌, List, [], ◌∷◌, ◌++◌}
use Rattle.subject.specs.Problem.{Problem, Same}
use Rattle.subject.specs.Decisions.{Decision, Agree}
use Rattle.subject.specs.Logs.{Call, Entry, Log, calls, Standing, Refuses, refused, walking, given, Reckoned, try, strike, back, begin, end, look, next}

-- next and end are made in a walk, all other calls outside
abbrev pub inside : Call → Bool
inside (try s o) = false
inside (strike s o) = false
inside back = false
inside begin = false
inside end = true
inside (look s) = false
inside (next n) = true

-- the answer is as reckoned while the decisions stand that the calls before it come to
abbrev pub Judged : Problem → Log → Entry → Type 0
Judged P L e = (D : List Decision) × Standing P (calls L) D × Reckoned P D (given L) e.call e.answer

-- every answer of the log is as reckoned from the calls before it, and every call was possible then
abbrev pub Lawful : Problem → Log → Type 0
Lawful P [] = Unit {0}
Lawful P (e ∷ L) = Lawful P L × (walking L ≡ inside e.call) × Judged P L e

-- the calls determine the decisions that stand
abbrev pub Determinate : Type 0
Determinate = (P : Problem) (C : List Call) (D E : List Decision) → Standing P C D → Standing P C E → D ≡ E

-- in a lawful log a call was answered by a refusal exactly where it is refused under the decisions that stood
abbrev pub Fair : Type 0
Fair = (P : Problem) (L : Log) (e : Entry) → Lawful P (e ∷ L)
    → (D : List Decision) × Standing P (calls L) D × ((n : ℕ) → (e.answer ≡ refused n) ↔ Refuses P D e.call n)

-- looks, begins, nexts and ends alone
abbrev pub Quiet : Call → Type 0
Quiet (try s o) = ⊥
Quiet (strike s o) = ⊥
Quiet back = ⊥
Quiet begin = Unit {0}
Quiet end = Unit {0}
Quiet (look s) = Unit {0}
Quiet (next n) = Unit {0}

abbrev pub Looking : Log → Type 0
Looking [] = Unit {0}
Looking (e ∷ L) = Quiet e.call × Looking L

-- From two moments outside walks, L of a planner of P and M of one of Q, with equal slots, scopes and rules, where the
-- decisions then standing forbid the same options, the same looks, begins, nexts and ends get the same answers and plans.
abbrev pub Alike : Type 0
Alike =
    (P Q : Problem) (L M J K : Log) (D E : List Decision) → Same P Q → Lawful P (J ++ L) → Lawful Q (K ++ M)
    → walking L ≡ false → walking M ≡ false → Standing P (calls L) D → Standing Q (calls M) E → Agree P D E
    → Looking J → calls J ≡ calls K → J ≡ K
