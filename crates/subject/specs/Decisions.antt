-- Decisions, what they forbid, and what is open while they stand. Assumes nothing.
use Rattle.std.specs.Prelude.{◌≡◌, ℕ, suc, T, ◌≢◌, ◌↔◌, List, [], ◌∷◌}
use Rattle.subject.specs.Problem.{Problem, Real}
use Rattle.subject.specs.Boxes.{Box, Supported, opened}

-- a slot and an option each
pub data Decision : Type 0 where
  tried struck : ℕ → ℕ → Decision

-- a strike forbids its option, a try every other option of its slot
abbrev pub Forbids : Decision → ℕ → ℕ → Type 0
Forbids (tried s o) t p = (t ≡ s) × (p ≢ o)
Forbids (struck s o) t p = (t ≡ s) × (p ≡ o)

-- no decision of the list, the newest first, forbids option o of slot s
abbrev pub Allowed : List Decision → ℕ → ℕ → Type 0
Allowed [] s o = Unit {0}
Allowed (d ∷ D) s o = (Forbids d s o → ⊥) × Allowed D s o

-- both lists forbid the same of the options that there are
abbrev pub Agree : Problem → List Decision → List Decision → Type 0
Agree P D E = (s o : ℕ) → Real P s o → Allowed D s o ↔ Allowed E s o

-- the box opens nothing that is forbidden
abbrev pub Within : List Decision → Box → Type 0
Within D X = (s o : ℕ) → T (X s o) → Allowed D s o

-- option o of slot s is open: some supported box within the decisions opens it
abbrev pub Open : Problem → List Decision → ℕ → ℕ → Type 0
Open P D s o = (X : Box) × Supported P X × Within D X × T (X s o)

-- X is the largest supported box within the decisions; where there is no supported box it opens nothing
abbrev pub Largest : Problem → List Decision → Box → Type 0
Largest P D X = (s o : ℕ) → T (X s o) ↔ Open P D s o

-- n options are open in all slots
abbrev pub OpenCount : Problem → List Decision → ℕ → Type 0
OpenCount P D n = (X : Box) × Largest P D X × (n ≡ opened X)

-- how many tries are in the list
abbrev pub tries : List Decision → ℕ
tries [] = 0
tries (tried s o ∷ D) = suc (tries D)
tries (struck s o ∷ D) = tries D

-- the list without its newest try and all behind it
abbrev pub undone : List Decision → List Decision
undone [] = []
undone (tried s o ∷ D) = D
undone (struck s o ∷ D) = undone D
