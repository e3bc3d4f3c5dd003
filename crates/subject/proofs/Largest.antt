-- The largest supported box, and how repeated closing comes to it. Assumes nothing.
use Rattle.std.proofs.Common.{ℕ, ◌<◌, T, ◌↔◌, List, ◌∷◌, length}
use Rattle.subject.specs.Problem.{Problem}
use Rattle.subject.specs.Boxes.{Box, Inside, Supported, LargestIn}
use Rattle.subject.specs.Decisions.{Decision, Forbids, Within, Largest}

-- it lies within the decisions
pub largest_within : (P : Problem) (D : List Decision) (X : Box) → Largest P D X → Within D X
largest_within P D X big s o t = let w = (big s o).0 t in w.2 s o w.3

-- Closing what has no support loses no supported box: every supported box within X lies in Y.
abbrev pub Left : Problem → Box → Box → Type 0
Left P X Y = Inside Y X × ((Z : Box) → Supported P Z → Inside Z X → Inside Z Y)

-- once all that is left is supported, it is the largest
pub all_held : (P : Problem) (X Y : Box) → Left P X Y → Supported P Y → LargestIn P X Y
all_held P X Y l y s o = (λ t. (Y, y, l.0, t), λ w. l.1 w.0 w.1 w.2 s o w.3)

-- once a slot has nothing left, there is no supported box, and the box that opens nothing is the largest
pub none_held : (P : Problem) (X Y N : Box) (s : ℕ) → Left P X Y → s < length P.sizes → ((o : ℕ) → T (Y s o) → ⊥) → ((t p : ℕ) → T (N t p) → ⊥)
    → LargestIn P X N
none_held P X Y N s l h none shut t p =
    (λ u. absurd (shut t p u), λ w. let a = w.1.alive s h in absurd (none a.0 (l.1 w.0 w.1 w.2 s a.0 a.1)))

-- The largest box within the decisions, less what one more decision forbids: the largest box within that is the largest
-- within all of them.
pub decide_largest : (P : Problem) (D : List Decision) (d : Decision) (X C Y : Box) → Largest P D X
    → ((t q : ℕ) → T (C t q) ↔ (T (X t q) × (Forbids d t q → ⊥))) → LargestIn P C Y → Largest P (d ∷ D) Y
decide_largest P D d X C Y big cut done t q = (
  λ h.
      let y = (done t q).0 h in
      (y.0, y.1, (λ u r k. let m = (cut u r).0 (y.2 u r k) in (m.1, largest_within P D X big u r m.0)), y.3),
  λ w. (done t q).1 (w.0, w.1, (λ u r k. (cut u r).1 ((big u r).1 (w.0, w.1, (λ u' r' k'. (w.2 u' r' k').1), k), (w.2 u r k).0)), w.3),
)
