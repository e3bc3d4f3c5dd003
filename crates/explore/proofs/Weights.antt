-- The stack grows lighter with every turn. Assumes nothing.
use Rattle.std.proofs.Common.{◌≡◌, ℕ, suc, ◌+◌, ◌^◌, ◌<◌, ◌≤◌, sym, ap, subst₂, pow-suc, arith}
use native.Mathlib.Nat.{pow-le-pow_right}
use Rattle.std.proofs.Math.Nat.{one-le-pow}
use Rattle.subject.specs.Boxes.{Box, opened}
use Rattle.boxes.proofs.Counting.{sum_same}
use Rattle.explore.specs.Weight.{weight}

weight_same : (K J : ℕ → Box) (n : ℕ) → ((j : ℕ) → j < n → J j ≡ K j) → weight J n ≡ weight K n
weight_same K J n below = sum_same (λ j. 3 ^ opened (J j)) (λ j. 3 ^ opened (K j)) n (λ j h. ap (λ Y. 3 ^ opened Y) (below j h))

-- a box dropped
pub weight_drop : (K J : ℕ → Box) (top i : ℕ) → J ≡ K → top ≡ i + 1 → weight J i < weight K top
weight_drop K J top i same high =
    let e : suc i ≡ top = omega arith in
    let h : weight K i < weight K (suc i) = omega (arith, one-le-pow (opened (K i)) 3 (omega arith)) in
    subst₂ (λ L n. weight L i < weight K n) (sym same) e h

-- a box replaced by two that open less
pub weight_split : (K J : ℕ → Box) (i : ℕ) → ((j : ℕ) → j < i → J j ≡ K j) → opened (J i) < opened (K i) → opened (J (suc i)) < opened (K i)
    → weight J (suc (suc i)) < weight K (suc i)
weight_split K J i below a b =
    let p : 3 ^ suc (opened (J i)) ≤ 3 ^ opened (K i) = pow-le-pow_right (omega arith) a in
    let q : 3 ^ suc (opened (J (suc i))) ≤ 3 ^ opened (K i) = pow-le-pow_right (omega arith) b in
    omega (arith, p, q, pow-suc 3 (opened (J i)), pow-suc 3 (opened (J (suc i))), weight_same K J i below, one-le-pow (opened (K i)) 3 (omega arith))
