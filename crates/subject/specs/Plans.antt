-- Plans, which of them meet sheets and decisions, and their order. Assumes nothing.
use Rattle.std.specs.Prelude.{◌≡◌, ℕ, ◌<◌, T, ◌⊎◌, List, [], ◌∷◌, map, length, slice_index}
use Rattle.subject.specs.Problem.{Problem, Placed}
use Rattle.subject.specs.Decisions.{Decision, Allowed}

-- a plan gives every slot one option
abbrev pub Plan : Type 0
Plan = List ℕ

-- a plan meets every sheet and every decision of the list: each rule admits its options at the scope, and no decision
-- forbids one of them; where a sheet names a slot beyond the last, no plan meets it
pub record Meets (P : Problem) (D : List Decision) (p : Plan) : Type 0 where
  pub placed : Placed P
  pub long : length p ≡ length P.sizes
  pub real : (s : ℕ) → s < length P.sizes → slice_index p s < slice_index P.sizes s
  pub allowed : (s : ℕ) → s < length P.sizes → Allowed D s (slice_index p s)
  pub admitted : (k : ℕ) → k < P.sheets → T (P.admits k (map (λ s. slice_index p s) (P.scope k)))

-- dictionary order: at the first slot where they differ, the smaller option first
abbrev pub Before : Plan → Plan → Type 0
Before [] q = ⊥
Before (a ∷ p) [] = ⊥
Before (a ∷ p) (b ∷ q) = (a < b) ⊎ ((a ≡ b) × Before p q)

-- the plan comes after all of the list
abbrev pub Behind : List Plan → Plan → Type 0
Behind [] p = Unit {0}
Behind (g ∷ given) p = Before g p × Behind given p

-- p is the first plan that meets all and comes after all plans given
pub record First (P : Problem) (D : List Decision) (given : List Plan) (p : Plan) : Type 0 where
  pub meets : Meets P D p
  pub behind : Behind given p
  pub least : (q : Plan) → Meets P D q → Behind given q → (p ≡ q) ⊎ Before p q

-- no such plan is left
abbrev pub NoMore : Problem → List Decision → List Plan → Type 0
NoMore P D given = (q : Plan) → Meets P D q → Behind given q → ⊥
