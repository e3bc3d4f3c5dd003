-- What settling a box comes to. Assumes nothing.
use Rattle.std.specs.Prelude.{◌≡◌, ℕ, ◌<◌, T, List, length, slice_index}
use Rattle.subject.specs.Problem.{Problem, Real, Placed}
use Rattle.subject.specs.Boxes.{Box, Fits, LargestIn}
use Rattle.boxes.specs.Boxes as Cells
use Rattle.boxes.specs.Boxes.{Open, opens, Within}
use Rattle.binder.specs.Meaning.{Binding}
use Rattle.settle.specs.Keeping.{Has, Keeps, Framed}
use Rattle.settle.specs.Reach.{Covering, Covers, Holding, Rests, Resting}

-- each of the first n slots has an open option
pub record Alive (b : List ℕ) (n : ℕ) : Type 0 where
  pub each : (s : ℕ) → s < n → Cells.Some b s

-- the same of a box
abbrev pub Lives : Box → ℕ → Type 0
Lives Y n = (s : ℕ) → s < n → (o : ℕ) × T (Y s o)

-- Y opens nothing that the cells do not
abbrev pub Under : Box → List ℕ → Type 0
Under Y b = (s o : ℕ) → T (Y s o) → Open b s o

-- each option that Y opens at a position of a scope is held there by a kept list with all its options open in Y
abbrev pub Upheld : Binding → Box → Type 0
Upheld m Y = (s p o : ℕ) → s < m.count → p < length (m.scope s) → T (Y (slice_index (m.scope s) p) o)
    → (l : List ℕ) × T (m.kept s l) × Fits Y (m.scope s) l × (slice_index l p ≡ o)

-- The binder m became k and the box b became c, for n slots. Whatever these are: the sheets, scopes and marks stay, no list is
-- added, and none is dropped that fits c; nothing is opened. No box within b is lost that the kept lists uphold and that has
-- something open in each of the first n slots. Where anything is open in c, each of these slots has an open option.
-- Sheet by sheet: a sheet holds what is open in c at its slots, if its own set has the slots that it names and
-- that a box covers, and if it names a lost slot, by that set, or held what is open in b.
-- What this comes to for a problem that has these sheets, and of whose rules the binder keeps what matters in b: the binder
-- keeps what matters in c, and c is the largest supported box within b. The latter has five premises more: the problem has n
-- slots; the sheets name no slot beyond the last; b opens only options that there are; the sets have the slots that the
-- sheets name and a box covers; and each sheet that names no lost slot held what is open in b.
-- Left free: whether a list that does not fit c is kept; and where a sheet's set lacks a slot, or it did not hold what
-- was open and names no lost slot, how much is closed of what is not supported.
pub record Settled (m k : Binding) (masks : List ℕ) (lost n : ℕ) (b c : List ℕ) : Type 0 where
  pub framed : Framed m k
  pub none_added : (s : ℕ) (l : List ℕ) → T (k.kept s l) → T (m.kept s l)
  pub still : (s : ℕ) (l : List ℕ) → T (m.kept s l) → Cells.Fits c (m.scope s) l → T (k.kept s l)
  pub less : Within c b
  pub spared : (Y : Box) → Under Y b → Upheld m Y → Lives Y n → Under Y c
  pub alive : (s o : ℕ) → Open c s o → Alive c n
  pub held : (s : ℕ) → s < m.count → Covering (m.scope s) (slice_index masks s) → Rests m masks b lost s → Holding k c s
  pub keeps : (P : Problem) → Has P m → Keeps P (opens b) m.kept → Keeps P (opens c) k.kept
  pub largest : (P : Problem) → Has P m → length P.sizes ≡ n → Placed P → ((s o : ℕ) → Open b s o → Real P s o) → Keeps P (opens b) m.kept
      → Covers m.count m.scope masks → Resting m masks b lost → LargestIn P (opens b) (opens c)

-- m became n and b became c by showings: no list is added, none is lost that fits c, and no box that is upheld
pub record Tight (m n : Binding) (b c : List ℕ) : Type 0 where
  pub framed : Framed m n
  pub none_added : (s : ℕ) (l : List ℕ) → T (n.kept s l) → T (m.kept s l)
  pub still : (s : ℕ) (l : List ℕ) → T (m.kept s l) → Cells.Fits c (m.scope s) l → T (n.kept s l)
  pub within : Within c b
  pub upheld : (Y : Box) → Under Y b → Upheld m Y → Under Y c

-- some option that b opens is closed in c
pub record Loses (b c : List ℕ) : Type 0 where
  pub slot : ℕ
  pub option : ℕ
  pub was : Open b slot option
  pub gone : Open c slot option → ⊥
