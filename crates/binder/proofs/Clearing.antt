-- Marks undone one by one. Assumes nothing.
use Rattle.std.proofs.Common.{◌≡◌, ℕ, ◌<◌, ◌≤◌}
use Rattle.binder.specs.Meaning.{Binding, SameLists, SameSheets}

-- n is m with some of the newest marks undone
pub record Clearing (m n : Binding) : Type 0 where
  pub sheets : SameSheets m n
  pub fewer : n.marks ≤ m.marks
  pub same : (s : ℕ) → n.marks ≡ m.marks → SameLists (n.kept s) (m.kept s)
  pub at : (s : ℕ) → n.marks < m.marks → SameLists (n.kept s) (m.marked n.marks s)
  pub older : (i s : ℕ) → i < n.marks → SameLists (n.marked i s) (m.marked i s)
