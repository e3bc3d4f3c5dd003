-- A mask of the options that are light enough, option by option. Assumes nothing.
use Rattle.std.proofs.Common.{◌≡◌, ℕ, ◌⊎◌, List, ℤ, ◌+ℤ◌, ◌≤ℤ◌, sym, subst, inl, inr, ⊎_elim}
use Rattle.std.proofs.lemmas.Bool.{cases_eq}
use Rattle.boxes.specs.Boxes.{Bit}
use Rattle.load.specs.Weights.{weight_of, Peeled, Allowed, Masked}
use Rattle.load.proofs.Bitwise.{with_bit, bit_set, bit_added, bit_there, no_bit, top_bit, was_there, is_left}
use Rattle.load.proofs.Lowest.{bit_open, open_bit}

-- of the options of a cell that are allowed, those have a bit that are not left
pub record MaskSoFar (weights : List ℤ) (rest «cap» : ℤ) (cell left mask : ℕ) : Type 0 where
  pub within : (o : ℕ) → Bit left o → Bit cell o
  pub sound : (o : ℕ) → Bit mask o → Allowed weights rest «cap» cell o
  pub complete : (o : ℕ) → Allowed weights rest «cap» cell o → Bit left o ⊎ Bit mask o

module _ (weights : List ℤ) (rest «cap» : ℤ) (cell : ℕ) where
  pub mask_start : (left : ℕ) → left ≡ cell → MaskSoFar weights rest «cap» cell left 0
  mask_start left e =
      record {
        within = λ o b. subst (λ n. Bit n o) e b;
        sound = λ o b. absurd (no_bit o b);
        complete = λ o a. inl (subst (λ n. Bit n o) (sym e) (bit_open cell o a.is_open));
      }

  pub mask_all : (left mask : ℕ) → left ≡ 0 → MaskSoFar weights rest «cap» cell left mask → Masked (Allowed weights rest «cap» cell) mask
  mask_all left mask e was =
      record { sound = was.sound; complete = λ o a. ⊎_elim (λ b. absurd (no_bit o (subst (λ n. Bit n o) e b))) (λ b. b) (was.complete o a) }

  module _ (left mask o others : ℕ) (h : Peeled left o others) (was : MaskSoFar weights rest «cap» cell left mask) where
    fewer : (p : ℕ) → Bit others p → Bit cell p
    fewer p b = was.within p (was_there left o others h p b)

    -- the next option is light enough
    pub mask_take : (weight_of weights o +ℤ rest) ≤ℤ «cap» → MaskSoFar weights rest «cap» cell others (with_bit mask o)
    mask_take fits =
        let small = h.highest.small in
        let here : Allowed weights rest «cap» cell o = record { is_open = open_bit cell o small (was.within o (top_bit left o others h)); fits = fits } in
        record {
          within = fewer;
          sound = λ p b. ⊎_elim (λ e. subst (Allowed weights rest «cap» cell) (sym e) here) (λ ne. was.sound p (bit_there mask o small p ne b)) (cases_eq p o);
          complete = λ p a. ⊎_elim
              (λ e. inr (subst (Bit (with_bit mask o)) (sym e) (bit_set mask o small)))
              (λ ne. ⊎_elim (λ b. inl (is_left left o others h p ne b)) (λ b. inr (bit_added mask o small p ne b)) (was.complete p a))
              (cases_eq p o);
        }

    -- it is not
    pub mask_skip : ((weight_of weights o +ℤ rest) ≤ℤ «cap» → ⊥) → MaskSoFar weights rest «cap» cell others mask
    mask_skip none =
        record {
          within = fewer;
          sound = was.sound;
          complete = λ p a. ⊎_elim
              (λ e. absurd (none (subst (λ n. (weight_of weights n +ℤ rest) ≤ℤ «cap») e a.fits)))
              (λ ne. ⊎_elim (λ b. inl (is_left left o others h p ne b)) (λ b. inr b) (was.complete p a))
              (cases_eq p o);
        }
