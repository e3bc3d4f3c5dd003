-- An exploration under way. Assumes nothing.
use Rattle.std.specs.Prelude.{ℕ, ◌+◌, ◌<◌, ◌≤◌, List, length}
use Rattle.subject.specs.Problem.{Problem}
use Rattle.subject.specs.Boxes.{Box, Inside}
use Rattle.subject.specs.Decisions.{Decision, Largest}
use Rattle.subject.specs.Plans.{Plan}
use Rattle.binder.specs.Meaning.{Binding}
use Rattle.settle.specs.Keeping.{Has, Based}
use Rattle.explore.specs.Pending.{Pending}
use Rattle.explore.specs.Levels.{Levels}

-- An exploration of X, the largest supported box within the decisions D, that has given the plans G. The boxes K 0 up to
-- K (top - 1) are still to be explored; each is based on a box with options closed at the slots of the set A of its number.
-- The binder was m where it began, with room for 49 marks more, and is n now.
pub record Exploring (P : Problem) (D : List Decision) (G : List Plan) (X : Box) (m : Binding) (K : ℕ → Box) (A : ℕ → ℕ) (top : ℕ) (n : Binding) : Type 0 where
  pub some : 0 < length P.sizes
  pub largest : Largest P D X
  pub room : m.marks + 49 ≤ 72
  pub has : Has P n
  pub inside : (i : ℕ) → i < top → Inside (K i) X
  pub bases : ℕ → Box
  pub based : (i : ℕ) → i < top → Based P (bases i) (K i) (A i)
  pub levels : Levels P X m bases top n
  pub pending : Pending P D G K top
