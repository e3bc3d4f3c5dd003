-- What a turn of an exploration comes to. Assumes nothing.
use Rattle.std.specs.Prelude.{◌≡◌, ℕ, ◌+◌, List, ◌∷◌, length, take}
use Rattle.subject.specs.Problem.{Problem}
use Rattle.subject.specs.Boxes.{Box}
use Rattle.subject.specs.Decisions.{Decision}
use Rattle.subject.specs.Plans.{Plan, First, NoMore}
use Rattle.binder.specs.Meaning.{Binding}
use Rattle.explore.specs.Exploring.{Exploring}
use Rattle.explore.specs.declared.outcome.Outcome.{Outcome}
use Rattle.explore.specs.declared.outcome.Outcome.TheVariants.{Empty, Dry, Split, Found}

-- a turn that finds no box is as the first says, any other as the second
abbrev pub IfEmpty : Outcome → Type 0 → Type 0 → Type 0
IfEmpty Empty A B = A
IfEmpty Dry A B = B
IfEmpty Split A B = B
IfEmpty (Found p) A B = B

-- how many boxes are left to explore after a turn, where there were some before
abbrev pub Leaves : Outcome → ℕ → ℕ → Type 0
Leaves Empty before after = after ≡ before
Leaves Dry before after = before ≡ after + 1
Leaves Split before after = after ≡ before + 1
Leaves (Found p) before after = before ≡ after + 1

-- what was found has an entry for every slot that a box covers
abbrev pub Long : Outcome → Type 0
Long Empty = Unit {0}
Long Dry = Unit {0}
Long Split = Unit {0}
Long (Found p) = length p ≡ 48

-- The exploration after a turn. Where no box was left there is no plan left; the first entries of what was found are the
-- next plan, which is then among those given; and the exploration goes on.
abbrev pub Turned : Problem → List Decision → List Plan → Box → Binding → Outcome → (ℕ → Box) → (ℕ → ℕ) → ℕ → Binding → Type 0
Turned P D G X m Empty K A top n = NoMore P D G × Exploring P D G X m K A top n
Turned P D G X m Dry K A top n = Exploring P D G X m K A top n
Turned P D G X m Split K A top n = Exploring P D G X m K A top n
Turned P D G X m (Found p) K A top n = First P D G (take (length P.sizes) p) × Exploring P D (take (length P.sizes) p ∷ G) X m K A top n
