-- Sets of positions as bits. Assumes nothing.
use Rattle.std.proofs.Common.{◌≡◌, ℕ, ◌-◌, ◌*◌, ◌%◌, ◌^◌, ◌<◌, ◌≤◌, bit_and, sym, ◌∙◌, subst, ⊎_elim, arith}
use Rattle.std.specs.Int.{bit_not, w32, trailing_zeros}
use Rattle.std.proofs.lemmas.Nat.{one_shl, and_le_l}
use Rattle.std.proofs.lemmas.Nat.Bits.{bit_at_ones, bit_at_ones_above, bit_at_and, bit_at_clear_same, bit_at_clear_other, bit_at-trailing_zeros, bit_at_above, bit_at-lt}
use Rattle.std.proofs.lemmas.Bool.{cases_eq, cases_lt}
use Rattle.boxes.specs.Boxes.{Bit}
use Rattle.fit.specs.Positions.{FirstOnes, LeftOut, Peeled}

pub first_ones : (n : ℕ) → n ≤ 8 → FirstOnes n ((1 * 2 ^ n) % 4294967296 - 1)
unfolding Bit
first_ones n h =
    let e : (1 * 2 ^ n) % 4294967296 ≡ 2 ^ n = one_shl n 32 (omega arith) in
    subst (λ m. FirstOnes n (m - 1)) (sym e)
    (record {
      only = λ q b. ⊎_elim (λ lt. lt) (λ ge. absurd (let y : ◌≡◌ {A = ℕ} 0 1 = sym (bit_at_ones_above n q ge) ∙ b in omega arith)) (cases_lt q n);
      all = λ q lt. bit_at_ones n q lt;
    })

-- a set has no position past its width
in_width : (bits q : ℕ) → bits < 4294967296 → Bit bits q → q < 32
unfolding Bit
in_width bits q small b = ⊎_elim (λ lt. lt) (λ ge. absurd (let y : ◌≡◌ {A = ℕ} 0 1 = sym (bit_at_above bits 32 q small ge) ∙ b in omega arith)) (cases_lt q 32)

pub left_out : (bits p : ℕ) → bits < 4294967296 → p < 32 → LeftOut bits p (bit_and bits (bit_not w32 ((1 * 2 ^ p) % 4294967296)))
unfolding Bit
left_out bits p small h =
    record {
      fewer = and_le_l bits (bit_not w32 ((1 * 2 ^ p) % 4294967296));
      gone = λ b. let y : ◌≡◌ {A = ℕ} 0 1 = sym (bit_at_clear_same w32 bits p h) ∙ b in omega arith;
      less = λ q b. omega (arith, b, bit_at_and bits (bit_not w32 ((1 * 2 ^ p) % 4294967296)) q, bit_at-lt bits q);
      more = λ q ne b. bit_at_clear_other w32 bits p h q (in_width bits q small b) ne ∙ b;
    }

-- the lowest of a set, left out of it
pub peeled : (bits left : ℕ) → (bits ≡ 0 → ⊥) → bits < 4294967296 → LeftOut bits (trailing_zeros w32 bits) left → Peeled bits (trailing_zeros w32 bits) left
unfolding Bit
peeled bits left some small l = record { here = (bit_at-trailing_zeros w32 bits (omega (arith, some)) small).1; rest = l }

-- is fewer
pub peeled_less : (bits p left : ℕ) → Peeled bits p left → left < bits
peeled_less bits p left x =
    ⊎_elim (λ e. absurd (x.rest.gone (subst (λ n. Bit n p) (sym e) x.here))) (λ ne. omega (arith, x.rest.fewer)) (cases_eq left bits)
