-- Bits of a number: one set, and the highest taken away. Assumes nothing.
use Rattle.std.proofs.Common.{◌≡◌, ℕ, ◌+◌, ◌-◌, ◌*◌, ◌%◌, ◌^◌, ◌<◌, ◌≤◌, sym, ap, ◌∙◌, subst, ⊎_elim, arith, w32}
use lib.Bits.{bit_or}
use Rattle.std.specs.Int.{bit_at}
use Rattle.std.proofs.lemmas.Nat.{pow-add}
use Rattle.std.proofs.lemmas.Nat.Bits.{bit_at-zero, bit_at_set_same, bit_at_set_other, bit_at_cat_low, bit_at_cat_high, bit_at_above}
use Rattle.std.proofs.lemmas.Bool.{cases_eq, cases_order}
use Rattle.boxes.specs.Boxes.{Bit}
use Rattle.load.specs.Weights.{Peeled}

-- no bit in zero
pub no_bit : (k : ℕ) → Bit 0 k → ⊥
unfolding Bit
no_bit k b = omega (arith, bit_at-zero k, b)

-- a number with one bit more
abbrev pub with_bit : ℕ → ℕ → ℕ
with_bit m o = bit_or m ((1 * 2 ^ o) % 4294967296)

module _ (m o : ℕ) (small : o < 32) where
  pub bit_set : Bit (with_bit m o) o
  unfolding Bit
  bit_set = bit_at_set_same w32 m o small

  pub bit_added : (k : ℕ) → (k ≡ o → ⊥) → Bit m k → Bit (with_bit m o) k
  unfolding Bit
  bit_added k ne b = bit_at_set_other w32 m o small k ne ∙ b

  pub bit_there : (k : ℕ) → (k ≡ o → ⊥) → Bit (with_bit m o) k → Bit m k
  unfolding Bit
  bit_there k ne b = sym (bit_at_set_other w32 m o small k ne) ∙ b

-- the highest of some options, and the others
module _ (a j b : ℕ) (h : Peeled a j b) where
  low : b < 2 ^ j
  low = omega (arith, pow-add 2 j 1, h.others, h.highest.above)

  whole : a ≡ 1 * 2 ^ j + b
  whole = omega (arith, h.others)

  -- from bit j on, a has the bits of 1
  high : (o : ℕ) → j ≤ o → bit_at a o ≡ bit_at 1 (o - j)
  high o le = ap (λ n. bit_at n o) whole ∙ bit_at_cat_high 1 j b o low le

  other_same : (o : ℕ) → (o ≡ j → ⊥) → bit_at a o ≡ bit_at b o
  other_same o ne = ⊎_elim (λ e. absurd (ne e)) (⊎_elim below above) (cases_order o j)
    where
      below : o < j → bit_at a o ≡ bit_at b o
      below l = ap (λ n. bit_at n o) whole ∙ bit_at_cat_low 1 j b o l

      above : j < o → bit_at a o ≡ bit_at b o
      above g = high o (omega arith) ∙ bit_at_above 1 1 (o - j) (omega arith) (omega arith) ∙ sym (bit_at_above b j o low (omega arith))

  pub top_bit : Bit a j
  unfolding Bit
  top_bit = let e : j - j ≡ 0 = omega arith in high j (omega arith) ∙ ap (bit_at 1) e

  -- an option that is left was there
  pub was_there : (o : ℕ) → Bit b o → Bit a o
  unfolding Bit
  was_there o k = ⊎_elim (λ e. subst (λ n. bit_at a n ≡ 1) (sym e) top_bit) (λ ne. other_same o ne ∙ k) (cases_eq o j)

  -- each but the highest is left
  pub is_left : (o : ℕ) → (o ≡ j → ⊥) → Bit a o → Bit b o
  unfolding Bit
  is_left o ne k = sym (other_same o ne) ∙ k
