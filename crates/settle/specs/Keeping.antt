-- A binder beside a problem: its sheets are the problem's, and of each rule it keeps what matters in a box. Assumes nothing.
use Rattle.std.specs.Prelude.{◌≡◌, ℕ, ◌<◌, Bool, T, List}
use Rattle.subject.specs.Problem.{Problem, Names}
use Rattle.subject.specs.Boxes.{Box, Inside, Fits, Supports}
use Rattle.boxes.specs.Boxes.{Bit}
use Rattle.binder.specs.Meaning.{Binding, SameSheets, SameLists}

-- the binder has the sheets and scopes of the problem
pub record Has (P : Problem) (m : Binding) : Type 0 where
  pub sheets : m.count ≡ P.sheets
  pub scope : (k : ℕ) → m.scope k ≡ P.scope k

-- the lists k that are kept are every list of the rules that fits X, and none outside the rules
pub record Keeps (P : Problem) (X : Box) (k : ℕ → List ℕ → Bool) : Type 0 where
  pub ruled : (s : ℕ) (l : List ℕ) → T (k s l) → T (P.admits s l)
  pub fitting : (s : ℕ) (l : List ℕ) → T (P.admits s l) → Fits X (P.scope s) l → T (k s l)

-- n has the sheets and marks of m
pub record Framed (m n : Binding) : Type 0 where
  pub sheets : SameSheets m n
  pub marks : n.marks ≡ m.marks
  pub marked : (i t : ℕ) → SameLists (n.marked i t) (m.marked i t)

-- each option that the box opens is supported by every sheet that names its slot
abbrev pub Backed : Problem → Box → Type 0
Backed P X = (s o k i : ℕ) → T (X s o) → Names P k i s → Supports P X k i o

-- X is the box Z, in which each open option is supported and none of a slot from 48 on, with options closed at slots of a set
-- alone
pub record Based (P : Problem) (Z X : Box) (set : ℕ) : Type 0 where
  pub inside : Inside X Z
  pub apart : (s o : ℕ) → (Bit set s → ⊥) → T (Z s o) → T (X s o)
  pub backed : Backed P Z
  pub low : (s o : ℕ) → T (Z s o) → s < 48
