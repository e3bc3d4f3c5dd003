-- The marks of a binder during an exploration. Assumes nothing.
use Rattle.std.specs.Prelude.{◌≡◌, ℕ, zero, suc, ◌+◌, ◌<◌}
use Rattle.subject.specs.Problem.{Problem}
use Rattle.subject.specs.Boxes.{Box}
use Rattle.binder.specs.Meaning.{Binding, SameLists}
use Rattle.settle.specs.Keeping.{Has, Keeps}

-- the boxes of an exploration by level: the box X that it began with, and then those that are still to be explored are
-- based on
abbrev pub level : Box → (ℕ → Box) → ℕ → Box
level X K zero = X
level X K (suc j) = K j

-- The binder was m where the exploration began, and is n now. It has the marks of m, and above them one for each level
-- but the uppermost, at which it kept the rules as far as they matter in the box of that level; now it keeps them as far
-- as they matter in the uppermost.
pub record Levels (P : Problem) (X : Box) (m : Binding) (K : ℕ → Box) (top : ℕ) (n : Binding) : Type 0 where
  pub marks : n.marks ≡ m.marks + top
  pub older : (i s : ℕ) → i < m.marks → SameLists (n.marked i s) (m.marked i s)
  pub marked : (j : ℕ) → j < top → Keeps P (level X K j) (n.marked (m.marks + j))
  pub keeps : Keeps P (level X K top) n.kept

-- the binder n has the sheets of the problem and the marks of m, and keeps the rules as far as they matter in X
pub record Returned (P : Problem) (X : Box) (m n : Binding) : Type 0 where
  pub has : Has P n
  pub marks : n.marks ≡ m.marks
  pub older : (i s : ℕ) → i < m.marks → SameLists (n.marked i s) (m.marked i s)
  pub keeps : Keeps P X n.kept
