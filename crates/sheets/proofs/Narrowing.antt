-- Closing position by position comes to a showing, where the masks are the supported options. Assumes nothing.
use Rattle.std.proofs.Common.{◌≡◌, ℕ, ◌+◌, ◌<◌, List, length, get_or, sym, refl, ap, ◌∙◌, subst, ⊎_elim, arith}
use Rattle.std.proofs.lemmas.Bool.{cases_eq, cases_lt}
use Rattle.boxes.specs.Boxes.{Open, Within, Bit, Restricted}
use Rattle.boxes.proofs.Bits.{open_same}
use Rattle.binder.specs.Meaning.{Binding, Held}
use Rattle.sheets.specs.Closing.{Narrowed}

pub narrowed_none : (b scope masks : List ℕ) → Narrowed b b scope masks 0
narrowed_none b scope masks =
    record { less = λ t o h. h; masked = λ p o l h. absurd (omega arith); more = λ t o h k. h; rest = λ t ne. refl }

-- one position more
pub narrowed_more : (b c d scope masks : List ℕ) (n k slot mask : ℕ) → Narrowed b c scope masks n → Restricted c d slot mask → slot ≡ get_or scope n 0 → mask ≡ get_or masks n 0 → k ≡ n + 1 → Narrowed b d scope masks k
narrowed_more b c d scope masks n k slot mask h r at is next =
    record {
      less = λ t o f. h.less t o (r.less t o f);
      masked = λ p o l f. ⊎_elim
          (λ lt. h.masked p o lt (r.less (get_or scope p 0) o f))
          (λ ge.
          let e : p ≡ n = omega arith in
          let here : get_or scope p 0 ≡ slot = ap (λ q. get_or scope q 0) e ∙ sym at in
          let there : mask ≡ get_or masks p 0 = is ∙ ap (λ q. get_or masks q 0) (sym e) in
          subst (λ v. Bit v o) there (r.masked o (subst (λ v. Open d v o) here f)))
          (cases_lt p n);
      more = λ t o f g.
          let old = h.more t o f (λ p l e. g p (omega arith) e) in
          ⊎_elim
          (λ e. subst (λ v. Open d v o) (sym e) (r.more o (subst (λ v. Open c v o) e old) (subst (λ v. Bit v o) (sym is) (g n (omega arith) (sym (e ∙ at))))))
          (λ ne. open_same c d t o (r.rest t ne) old)
          (cases_eq t slot);
      rest = λ t f. r.rest t (λ e. f n (omega arith) (sym (e ∙ at))) ∙ h.rest t (λ p l e. f p (omega arith) e);
    }

-- what a showing does to the box
pub record BoxShown (m : Binding) (s : ℕ) (b c : List ℕ) : Type 0 where
  pub supported : (p o : ℕ) → p < length (m.scope s) → Open c (get_or (m.scope s) p 0) o → Held m b s p o
  pub spared : (p o : ℕ) → p < length (m.scope s) → Held m b s p o → Open c (get_or (m.scope s) p 0) o
  pub elsewhere : (t : ℕ) → ((p : ℕ) → p < length (m.scope s) → get_or (m.scope s) p 0 ≡ t → ⊥) → get_or c t 0 ≡ get_or b t 0
  pub only_closes : Within c b

-- the masks are the supported options
pub record Masks (m : Binding) (s : ℕ) (b masks : List ℕ) : Type 0 where
  pub sound : (p o : ℕ) → p < length (m.scope s) → Open b (get_or (m.scope s) p 0) o → Bit (get_or masks p 0) o → Held m b s p o
  pub complete : (p o : ℕ) → p < length (m.scope s) → Held m b s p o → Bit (get_or masks p 0) o

-- different positions name different slots
abbrev pub Different : List ℕ → Type 0
Different scope = (p q : ℕ) → p < q → q < length scope → get_or scope p 0 ≡ get_or scope q 0 → ⊥

same_position : (scope : List ℕ) → Different scope → (p q : ℕ) → p < length scope → q < length scope → get_or scope p 0 ≡ get_or scope q 0 → p ≡ q
same_position scope apart p q lp lq e =
    ⊎_elim (λ eq. eq) (λ ne. ⊎_elim (λ lt. absurd (apart p q lt lq e)) (λ ge. absurd (apart q p (omega arith) lp (sym e))) (cases_lt p q)) (cases_eq p q)

pub shown_by_masks : (m : Binding) (s : ℕ) (b c masks : List ℕ) → Different (m.scope s) → Masks m s b masks → Narrowed b c (m.scope s) masks (length (m.scope s)) → BoxShown m s b c
shown_by_masks m s b c masks apart k h =
    let scope = m.scope s in
    record {
      supported = λ p o l is_open. k.sound p o l (h.less (get_or scope p 0) o is_open) (h.masked p o l is_open);
      spared = λ p o l held. h.more (get_or scope p 0) o
          (subst (Open b (get_or scope p 0)) held.holds (held.fits.each p l))
          (λ q lq e. subst (λ i. Bit (get_or masks i 0) o) (same_position scope apart p q l lq (sym e)) (k.complete p o l held));
      elsewhere = h.rest;
      only_closes = h.less;
    }
