-- A sheet of one slot that keeps every list supports each open option. Assumes nothing.
use Rattle.std.proofs.Common.{ℕ, zero, suc, ◌<◌, List, [], ◌∷◌, get_or, refl, subst, arith, lt→ltb}
use Rattle.boxes.specs.Boxes.{Open}
use Rattle.boxes.proofs.Bits.{open_low}
use Rattle.binder.specs.Meaning.{Held, Shown}
use Rattle.own_binder.specs.OneSheet.{keeps, one_sheet}

held_alone : (slot marks : ℕ) (b : List ℕ) (s p o : ℕ) → p < 1 → Open b (get_or (slot ∷ []) p 0) o → Held (one_sheet slot marks) b s p o
unfolding keeps
held_alone slot marks b s (suc p) o h t = absurd (omega arith)
held_alone slot marks b s zero o h t = record { list = o ∷ []; keeps = lt→ltb o 32 (open_low b slot o t); fits = record { long = refl; each = at }; holds = refl }
  where
    at : (q : ℕ) → q < 1 → Open b (get_or (slot ∷ []) q 0) (get_or (o ∷ []) q 0)
    at zero k = t
    at (suc q) k = absurd (omega arith)

-- shown a box, it leaves the box and itself as they are
pub shown : (slot marks : ℕ) (b : List ℕ) (s : ℕ) → Shown (one_sheet slot marks) (one_sheet slot marks) s b b
shown slot marks b s = record {
  supported = λ p o h t. held_alone slot marks b s p o h t;
  spared = λ p o h held. subst (Open b _) held.holds (held.fits.each p h);
  elsewhere = λ t f. refl;
  only_closes = λ t u h. h;
  still = λ l k f. k;
  none_added = λ l k. k;
  others = λ t ne l. refl;
  sheets = record { count = refl; scope = λ t. refl };
  marks = refl;
  marked = λ i t l. refl;
}
