-- The bits that are set, and how many they are. Assumes nothing.
use Rattle.std.proofs.Common.{◌≡◌, ℕ, zero, suc, ◌+◌, ◌/◌, ◌%◌, ◌^◌, ◌<◌, sym, refl, ap, ◌∙◌, subst, ⊎_elim, mod-eq_of_lt, add-one, one-add, arith}
use native.Mathlib.Nat.{mod-one}
use lib.Count.{ones, ones_cat}
use Rattle.std.proofs.lemmas.Bool.{cases_eq}
use Rattle.std.proofs.lemmas.Nat.{mod-pow-add, mod_below, pow_pos}
use Rattle.boxes.specs.Boxes.{Bit}
use Rattle.bar.specs.Counted.{HowMany}
use Rattle.bar.proofs.Counting.{counts_none, counts_yes, counts_no}

ones_more : (n k : ℕ) → ones (n % 2 ^ suc k) ≡ ones ((n / 2 ^ k) % 2) + ones (n % 2 ^ k)
ones_more n k =
    ap (λ j. ones (n % 2 ^ j)) (sym (one-add k)) ∙ ap ones (mod-pow-add n 1 k)
    ∙ ones_cat k ((n / 2 ^ k) % 2) (n % 2 ^ k) (mod_below n (2 ^ k) (pow_pos k))

ones_zero : ones 0 ≡ 0
unfolding ones
ones_zero = refl

ones_one : ones 1 ≡ 1
unfolding ones
ones_one = refl

counts_bits : (n k : ℕ) → HowMany (Bit n) k (ones (n % 2 ^ k))
unfolding Bit
counts_bits n zero = subst (λ (c : ℕ). HowMany (Bit n) 0 c) (sym (ap ones (mod-one n) ∙ ones_zero)) (counts_none (Bit n))
counts_bits n (suc k) =
    let was : HowMany (Bit n) k (ones (n % 2 ^ k)) = counts_bits n k in
    subst (λ (m : ℕ). HowMany (Bit n) m (ones (n % 2 ^ suc k))) (add-one k)
    (⊎_elim
    (λ e. subst (λ (c : ℕ). HowMany (Bit n) (k + 1) c)
    (let f : ones ((n / 2 ^ k) % 2) ≡ 1 = ap ones e ∙ ones_one in omega (arith, ones_more n k))
    (counts_yes (Bit n) k (ones (n % 2 ^ k)) was e))
    (λ ne. subst (λ (c : ℕ). HowMany (Bit n) (k + 1) c)
    (let z : (n / 2 ^ k) % 2 ≡ 0 = omega arith in
    let f : ones ((n / 2 ^ k) % 2) ≡ 0 = ap ones z ∙ ones_zero in omega (arith, ones_more n k))
    (counts_no (Bit n) k (ones (n % 2 ^ k)) was ne))
    (cases_eq ((n / 2 ^ k) % 2) 1))

-- as many as `count_ones` says
pub counts_ones : (n k : ℕ) → n < 2 ^ k → HowMany (Bit n) k (ones n)
counts_ones n k h = subst (λ (m : ℕ). HowMany (Bit n) k (ones m)) (mod-eq_of_lt h) (counts_bits n k)
