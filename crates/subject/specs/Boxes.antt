-- Boxes of open options, and which of them a problem's sheets support. Assumes nothing.
use Rattle.std.specs.Prelude.{◌≡◌, ℕ, zero, suc, ◌+◌, ◌<◌, Bool, cond, T, ◌↔◌, List, length, slice_index}
use Rattle.subject.specs.Problem.{Problem, Real, Names, Placed}

-- a box says of each slot which options are open: option o of slot s where X s o is true
abbrev pub Box : Type 0
Box = ℕ → ℕ → Bool

-- X opens nothing that Y does not
abbrev pub Inside : Box → Box → Type 0
Inside X Y = (s o : ℕ) → T (X s o) → T (Y s o)

-- a list fits a box when each of its options is open, at the slot of its position
abbrev pub Fits : Box → List ℕ → List ℕ → Type 0
Fits X scope l = (length l ≡ length scope) × ((i : ℕ) → i < length scope → T (X (slice_index scope i) (slice_index l i)))

-- sheet k supports option o at position i of its scope: an admitted list that fits the box holds it there
abbrev pub Supports : Problem → Box → ℕ → ℕ → ℕ → Type 0
Supports P X k i o = (l : List ℕ) × T (P.admits k l) × Fits X (P.scope k) l × (slice_index l i ≡ o)

-- A box is supported when it opens only options that there are, each slot has an open option, and each open option
-- is supported by every sheet that names its slot. Where a sheet names a slot beyond the last, no box is supported.
pub record Supported (P : Problem) (X : Box) : Type 0 where
  pub placed : Placed P
  pub real : (s o : ℕ) → T (X s o) → Real P s o
  pub alive : (s : ℕ) → s < length P.sizes → (o : ℕ) × T (X s o)
  pub held : (s o k i : ℕ) → T (X s o) → Names P k i s → Supports P X k i o

-- Y is the largest supported box within X: it opens exactly what some supported box within X opens
abbrev pub LargestIn : Problem → Box → Box → Type 0
LargestIn P X Y = (s o : ℕ) → T (Y s o) ↔ ((Z : Box) × Supported P Z × Inside Z X × T (Z s o))

-- f 0 + .. + f (n - 1)
abbrev pub sum : (ℕ → ℕ) → ℕ → ℕ
sum f zero = 0
sum f (suc n) = sum f n + f n

-- how many options of a slot a box opens, of options 0 to 31
abbrev pub opened_at : Box → ℕ → ℕ
opened_at X s = sum (λ o. cond (X s o) 1 0) 32

-- how many options a box opens, in slots 0 to 47
unfoldable pub opened : Box → ℕ
opened X = sum (opened_at X) 48
