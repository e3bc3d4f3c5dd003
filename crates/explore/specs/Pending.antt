-- The plans that an exploration has still to give, and the boxes that they lie in. Assumes nothing.
use Rattle.std.specs.Prelude.{◌≡◌, ℕ, ◌<◌, T, ◌↔◌, List, length, slice_index}
use Rattle.subject.specs.Problem.{Problem}
use Rattle.subject.specs.Boxes.{Box}
use Rattle.subject.specs.Decisions.{Decision}
use Rattle.subject.specs.Plans.{Plan, Meets, Before, Behind}

-- the plan lies in the box: it gives every slot an option that is open there
pub record Lies (P : Problem) (X : Box) (q : Plan) : Type 0 where
  pub long : length q ≡ length P.sizes
  pub at : (s : ℕ) → s < length P.sizes → T (X s (slice_index q s))

-- it lies in one of the boxes K 0 .. K (top - 1)
abbrev pub Somewhere : Problem → (ℕ → Box) → ℕ → Plan → Type 0
Somewhere P K top q = (i : ℕ) × (i < top) × Lies P (K i) q

-- The plans that meet all and come behind the plans G are those that lie in the boxes, and those of an upper box come
-- before those of a lower one.
pub record Pending (P : Problem) (D : List Decision) (G : List Plan) (K : ℕ → Box) (top : ℕ) : Type 0 where
  pub left : (q : Plan) → Meets P D q → Behind G q ↔ Somewhere P K top q
  pub order : (i j : ℕ) (p q : Plan) → i < j → j < top → Lies P (K j) p → Lies P (K i) q → Before p q
