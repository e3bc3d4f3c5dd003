-- A settling on its way: what one showing and showings in a row do to boxes and kept lists. Assumes nothing.
use Rattle.std.proofs.Common.{◌≡◌, ℕ, zero, suc, ◌<◌, T, ◌⊎◌, List, [], ◌∷◌, length, get_or, sym, refl, ◌∙◌, subst, inl, inr, ⊎_elim, arith}
use Rattle.std.proofs.lemmas.Bool.{cases_eq}
use Rattle.subject.specs.Boxes as Subject
use Rattle.subject.specs.Boxes.{Box, opened}
use Rattle.boxes.specs.Boxes.{Open, Fits, Within}
use Rattle.boxes.proofs.Bits.{open_same}
use Rattle.binder.specs.Meaning.{Binding, Shown, SameLists}
use Rattle.settle.specs.Keeping.{Framed}
use Rattle.settle.specs.Settled.{Under, Upheld, Tight}

abbrev In : List ℕ → ℕ → Type 0
In xs t = (p : ℕ) × (p < length xs) × (get_or xs p 0 ≡ t)

abbrev Out : List ℕ → ℕ → Type 0
Out xs t = (p : ℕ) → p < length xs → get_or xs p 0 ≡ t → ⊥

not_in : (x : ℕ) (xs : List ℕ) (t : ℕ) → (x ≡ t → ⊥) → Out xs t → Out (x ∷ xs) t
not_in x xs t ne none zero h e = ne e
not_in x xs t ne none (suc p) h e = none p (omega arith) e

-- a number stands in a list, or does not
find : (xs : List ℕ) (t : ℕ) → In xs t ⊎ Out xs t
find [] t = inr (λ p h. absurd (omega arith))
find (x ∷ xs) t =
    ⊎_elim
    (λ e. inl (0, omega arith, e))
    (λ ne. ⊎_elim (λ f. inl (suc f.0, omega (arith, f.1), f.2)) (λ none. inr (not_in x xs t ne none)) (find xs t))
    (cases_eq x t)

pub fits_less : (b c scope l : List ℕ) → Within c b → Fits c scope l → Fits b scope l
fits_less b c scope l less f = record { long = f.long; each = λ p h. less (get_or scope p 0) (get_or l p 0) (f.each p h) }

-- a list that fits a box under the cells fits the cells
pub fits_under : (Y : Box) (b scope l : List ℕ) → Under Y b → Subject.Fits Y scope l → Fits b scope l
fits_under Y b scope l w f = record { long = f.0; each = λ p h. w (get_or scope p 0) (get_or l p 0) (f.1 p h) }

to : (f g : List ℕ → mathlib.Core.Bool.Bool) (l : List ℕ) → SameLists g f → T (f l) → T (g l)
to f g l e t = subst T (sym (e l)) t

from : (f g : List ℕ → mathlib.Core.Bool.Bool) (l : List ℕ) → SameLists g f → T (g l) → T (f l)
from f g l e t = subst T (e l) t

pub framed_none : (m : Binding) → Framed m m
framed_none m = record { sheets = record { count = refl; scope = λ s. refl }; marks = refl; marked = λ i s l. refl }

pub framed_trans : (m n k : Binding) → Framed m n → Framed n k → Framed m k
framed_trans m n k f g = record {
  sheets = record { count = g.sheets.count ∙ f.sheets.count; scope = λ s. g.sheets.scope s ∙ f.sheets.scope s };
  marks = g.marks ∙ f.marks;
  marked = λ i s l. g.marked i s l ∙ f.marked i s l;
}

pub tight_none : (m : Binding) (b : List ℕ) → Tight m m b b
tight_none m b = record {
  framed = framed_none m;
  none_added = λ s l k. k;
  still = λ s l k f. k;
  within = λ t u h. h;
  upheld = λ Y w sup. w;
}

-- one sheet shown
pub tight_shown : (m n : Binding) (s : ℕ) (b c : List ℕ) → s < m.count → Shown m n s b c → Tight m n b c
tight_shown m n s b c hs shown = record {
  framed = record { sheets = shown.sheets; marks = shown.marks; marked = shown.marked };
  none_added = λ t l k. ⊎_elim
      (λ e. subst (λ x. T (m.kept x l)) (sym e) (shown.none_added l (subst (λ x. T (n.kept x l)) e k)))
      (λ ne. from (m.kept t) (n.kept t) l (shown.others t ne) k)
      (cases_eq t s);
  still = λ t l k f. ⊎_elim
      (λ e. subst (λ x. T (n.kept x l)) (sym e)
      (shown.still l (subst (λ x. T (m.kept x l)) e k) (fits_less b c (m.scope s) l shown.only_closes (subst (λ x. Fits c (m.scope x) l) e f))))
      (λ ne. to (m.kept t) (n.kept t) l (shown.others t ne) k)
      (cases_eq t s);
  within = shown.only_closes;
  upheld = λ Y w sup t u h. ⊎_elim
      (λ f.
      let held = sup s f.0 u hs f.1 (subst (λ x. T (Y x u)) (sym f.2) h) in
      subst (λ x. Open c x u) f.2 (shown.spared f.0 u f.1
      (record { list = held.0; keeps = held.1; fits = fits_under Y b (m.scope s) held.0 w held.2; holds = held.3 })))
      (λ none. open_same b c t u (shown.elsewhere t none) (w t u h))
      (find (m.scope s) t);
}

module _ (m n : Binding) (a c : List ℕ) (one : Tight m n a c) where
  -- what upholds a box still does
  upheld_on : (Y : Box) → Under Y c → Upheld m Y → Upheld n Y
  upheld_on Y w sup s p o hs hp h =
      let e : n.scope s ≡ m.scope s = one.framed.sheets.scope s in
      let held = sup s p o (subst (λ x. s < x) one.framed.sheets.count hs) (subst (λ x. p < length x) e hp) (subst (λ x. T (Y (get_or x p 0) o)) e h) in
      (held.0, one.still s held.0 held.1 (fits_under Y c (m.scope s) held.0 w held.2), subst (λ x. Subject.Fits Y x held.0) (sym e) held.2, held.3)

  pub tight_trans : (k : Binding) (e : List ℕ) → Tight n k c e → Tight m k a e
  tight_trans k e two = record {
    framed = framed_trans m n k one.framed two.framed;
    none_added = λ s l x. one.none_added s l (two.none_added s l x);
    still = λ s l x f. two.still s l (one.still s l x (fits_less c e (m.scope s) l two.within f)) (subst (λ y. Fits e y l) (sym (one.framed.sheets.scope s)) f);
    within = λ t u h. one.within t u (two.within t u h);
    upheld = λ Y w sup. let v : Under Y c = one.upheld Y w sup in two.upheld Y v (upheld_on Y v sup);
  }
