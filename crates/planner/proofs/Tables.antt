-- A table of saved boxes. Assumes nothing.
use Rattle.std.proofs.Common.{◌≡◌, ℕ, zero, suc, ◌<◌, List, [], ◌∷◌, length, get_or, set, refl, ap, arith}
use Rattle.boxes.specs.declared.OptionBox.{OptionBox}
use Rattle.planner.specs.States.{cells_at}

pub cells_same : (t : List OptionBox) (i : ℕ) (b : OptionBox) → i < length t → cells_at (set t i b) i ≡ b.cells
cells_same [] i b h = absurd (omega arith)
cells_same (x ∷ t) zero b h = refl
cells_same (x ∷ t) (suc i) b h = cells_same t i b (omega arith)

pub cells_other : (t : List OptionBox) (i j : ℕ) (b : OptionBox) → (j ≡ i → ⊥) → cells_at (set t i b) j ≡ cells_at t j
cells_other [] i j b ne = refl
cells_other (x ∷ t) zero zero b ne = absurd (ne refl)
cells_other (x ∷ t) zero (suc j) b ne = refl
cells_other (x ∷ t) (suc i) zero b ne = refl
cells_other (x ∷ t) (suc i) (suc j) b ne = cells_other t i j b (λ e. ne (ap suc e))

pub cells_read : (t : List OptionBox) (i : ℕ) (d : OptionBox) → i < length t → (get_or t i d).cells ≡ cells_at t i
cells_read [] i d h = absurd (omega arith)
cells_read (x ∷ t) zero d h = refl
cells_read (x ∷ t) (suc i) d h = cells_read t i d (omega arith)
