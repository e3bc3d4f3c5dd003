-- Held is supported. Assumes nothing.
use Rattle.std.proofs.Common.{ℕ, ◌↔◌, List}
use Rattle.subject.specs.Boxes.{Fits}
use Rattle.boxes.specs.Boxes as Cells
use Rattle.boxes.specs.Boxes.{opens}
use Rattle.boxes.proofs.Counting.{opens_is}
use Rattle.binder.specs.Laws.{HeldIsSupported}

-- a list fits the cells exactly where it fits the box that they stand for
pub fits_alike : (b scope l : List ℕ) → Cells.Fits b scope l ↔ Fits (opens b) scope l
fits_alike b scope l = (λ f. (f.long, λ p h. (opens_is b _ _).1 (f.each p h)), λ f. record { long = f.0; each = λ p h. (opens_is b _ _).0 (f.1 p h) })

pub held_supported : HeldIsSupported
held_supported m sizes b s p o = (
  λ h. (h.list, h.keeps, (fits_alike b (m.scope s) h.list).0 h.fits, h.holds),
  λ h. record { list = h.0; keeps = h.1; fits = (fits_alike b (m.scope s) h.0).1 h.2; holds = h.3 },
)
