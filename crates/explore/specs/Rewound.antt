-- Marks of a binder undone, the newest first. Assumes nothing.
use Rattle.std.specs.Prelude.{◌≡◌, ℕ, ◌-◌, ◌<◌}
use Rattle.binder.specs.Meaning.{Binding, SameLists, SameSheets}

-- n is m with its newest k marks undone, or all of them where there are fewer
pub record Rewound (m n : Binding) (k : ℕ) : Type 0 where
  pub sheets : SameSheets m n
  pub marks : n.marks ≡ m.marks - k
  pub same : (s : ℕ) → n.marks ≡ m.marks → SameLists (n.kept s) (m.kept s)
  pub at : (s : ℕ) → n.marks < m.marks → SameLists (n.kept s) (m.marked n.marks s)
  pub older : (i s : ℕ) → i < n.marks → SameLists (n.marked i s) (m.marked i s)
