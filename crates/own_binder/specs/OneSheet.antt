-- What a binder of one sheet means, which names one slot of any number and keeps every list. Assumes nothing.
use Rattle.std.proofs.Common.{ℕ, zero, suc, ◌<◌, Bool, false, nat_lt, T, List, [], ◌∷◌, refl, arith, ltb→lt}
use Rattle.std.specs.Prelude.{slice_index}
use Rattle.binder.specs.Meaning.{Binding, Listed, Proper}
use Rattle.own_binder.specs.declared.one_sheet.OneSheet.{OneSheet}

-- a list has one option, from 0 to 31
unfoldable pub keeps : List ℕ → Bool
keeps [] = false
keeps (o ∷ []) = nat_lt o 32
keeps (o ∷ p ∷ l) = false

abbrev pub one_sheet : ℕ → ℕ → Binding
one_sheet slot marks = record { count = 1; scope = λ s. slot ∷ []; kept = λ s. keeps; marks = marks; marked = λ i s. keeps }

abbrev pub meaning_of : OneSheet → Binding
meaning_of x = one_sheet x.slot x.marks.count

keeps_listed : (slot : ℕ) (l : List ℕ) → T (keeps l) → Listed (slot ∷ []) l
unfolding keeps
keeps_listed slot [] t = absurd t
keeps_listed slot (o ∷ []) t = record { long = refl; low = low }
  where
    low : (p : ℕ) → p < 1 → slice_index (o ∷ []) p < 32
    low zero h = ltb→lt o 32 t
    low (suc p) h = absurd (omega arith)
keeps_listed slot (o ∷ p ∷ l) t = absurd t

pub proper_of : (x : OneSheet) → Proper (meaning_of x)
proper_of x = record {
  few = omega arith;
  low = x.marks.few;
  some = λ s h. omega arith;
  short = λ s h. omega arith;
  apart = λ s p q h lt low. absurd (omega arith);
  listed = λ s. keeps_listed x.slot;
  listed_then = λ i s. keeps_listed x.slot;
}
