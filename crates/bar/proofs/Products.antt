-- The product of the other sizes, factor by factor. Assumes nothing.
use Rattle.std.proofs.Common.{◌≡◌, ℕ, zero, suc, ◌+◌, ◌*◌, ◌^◌, ◌<◌, ◌≤◌, List, [], ◌∷◌, length, get_or, take, drop, set, sym, refl, ap, ◌∙◌, subst, mul_assoc, one-mul, arith, length-set, length-drop, ⊎_elim, mul-one, get_or-set_other, get_or-set_same}
use native.Mathlib.Nat.{pow-le-pow_right}
use Rattle.std.proofs.lemmas.Bool.{cases_eq}
use Rattle.std.proofs.lemmas.List.{at_drop_more, get_or-drop}
use Rattle.std.proofs.lemmas.Nat.{mul-le, pow-add}
use Rattle.bar.specs.Counted.{product}

-- many is the product of the first n sizes, where that of a position counts as 1
pub record Multiplied (sizes : List ℕ) (position n many : ℕ) : Type 0 where
  pub product : many * product (drop n (set sizes position 1)) ≡ product (set sizes position 1)
  pub low : many ≤ 32 ^ n

times : (many s place : ℕ) → many ≤ 32 ^ place → s ≤ 32 → many * s ≤ 32 ^ (place + 1)
times many s place h k = subst (λ (n : ℕ). many * s ≤ n) (sym (pow-add 32 place 1)) (mul-le many s (32 ^ place) 32 h k)

small : (place : ℕ) → place < 8 → 32 ^ (place + 1) ≤ 2 ^ 40
small place h =
    let p : 0 < 32 = omega arith in
    let q : place + 1 ≤ 8 = omega arith in
    pow-le-pow_right p q

module _ (sizes : List ℕ) (position place many : ℕ) (h : place < length sizes) (was : Multiplied sizes position place many) where
  step : product (drop place (set sizes position 1)) ≡ get_or (set sizes position 1) place 0 * product (drop (place + 1) (set sizes position 1))
  step = at_drop_more product (set sizes position 1) place 0 (simp length-set h)

  pub multiplied_more : (place ≡ position → ⊥) → get_or sizes place 0 ≤ 32 → Multiplied sizes position (place + 1) (many * get_or sizes place 0)
  multiplied_more ne low = record {
    product = mul_assoc many (get_or sizes place 0) (product (drop (place + 1) (set sizes position 1)))
        ∙ ap (λ n. many * (n * product (drop (place + 1) (set sizes position 1)))) (sym (get_or-set_other sizes position place 1 0 ne))
        ∙ ap (λ n. many * n) (sym step) ∙ was.product;
    low = times many (get_or sizes place 0) place was.low low;
  }

  pub multiplied_same : place ≡ position → Multiplied sizes position (place + 1) many
  multiplied_same e =
      let one : get_or (set sizes position 1) place 0 ≡ 1 = ap (λ k. get_or (set sizes position 1) k 0) e ∙ get_or-set_same sizes position 1 0 (omega arith) in
      record {
        product = ap (λ n. many * n) (sym (step ∙ ap (λ n. n * product (drop (place + 1) (set sizes position 1))) one ∙ one-mul (product (drop (place + 1) (set sizes position 1))))) ∙ was.product;
        low = omega (arith, was.low, pow-add 32 place 1);
      }

  pub fits : length sizes ≡ 8 → get_or sizes place 0 ≤ 32 → many * get_or sizes place 0 ≤ 2 ^ 40
  fits long low = omega (arith, times many (get_or sizes place 0) place was.low low, small place (omega arith))

-- sizes that are 1 from some place on: the first of them have the same product
product_ones : (xs : List ℕ) → ((p : ℕ) → p < length xs → get_or xs p 0 ≡ 1) → product xs ≡ 1
product_ones [] f = refl
product_ones (x ∷ xs) f =
    let here : x ≡ 1 = f 0 (omega arith) in
    let rest : product xs ≡ 1 = product_ones xs (λ p h. f (suc p) (omega arith)) in
    ap (λ n. n * product xs) here ∙ one-mul (product xs) ∙ rest

pub product_front : (sizes : List ℕ) (k position : ℕ) → position < k → ((p : ℕ) → k ≤ p → p < length sizes → get_or sizes p 0 ≡ 1)
    → product (set (take k sizes) position 1) ≡ product (set sizes position 1)
product_front sizes zero position h f = absurd (omega arith)
product_front [] (suc k) position h f = refl
product_front (x ∷ xs) (suc k) zero h f = ap (λ n. 1 * n) (front xs k (λ p l q. f (suc p) (omega arith) (omega arith)))
  where
    front : (xs : List ℕ) (k : ℕ) → ((p : ℕ) → k ≤ p → p < length xs → get_or xs p 0 ≡ 1) → product (take k xs) ≡ product xs
    front xs zero f = sym (product_ones xs (λ p h. f p (omega arith) h))
    front [] (suc k) f = refl
    front (x ∷ xs) (suc k) f = ap (λ n. x * n) (front xs k (λ p l q. f (suc p) (omega arith) (omega arith)))
product_front (x ∷ xs) (suc k) (suc position) h f = ap (λ n. x * n) (product_front xs k position (omega arith) (λ p l q. f (suc p) (omega arith) (omega arith)))

-- where the sizes behind the first n are 1, the first n give the whole product
module _ (sizes : List ℕ) (position n many : ℕ) (was : Multiplied sizes position n many) (past : (p : ℕ) → n ≤ p → p < length sizes → get_or sizes p 0 ≡ 1) where
  one_past : (p : ℕ) → n ≤ p → p < length sizes → get_or (set sizes position 1) p 0 ≡ 1
  one_past p h l = ⊎_elim
      (λ e. ap (λ k. get_or (set sizes position 1) k 0) e ∙ get_or-set_same sizes position 1 0 (omega arith))
      (λ ne. get_or-set_other sizes position p 1 0 ne ∙ past p h l)
      (cases_eq p position)

  pub multiplied_whole : many ≡ product (set sizes position 1)
  multiplied_whole =
      let rest : product (drop n (set sizes position 1)) ≡ 1 = product_ones (drop n (set sizes position 1))
      (λ p h. get_or-drop n (set sizes position 1) p 0 ∙ one_past (n + p) (omega arith) (omega (arith, length-drop n (set sizes position 1), length-set sizes position 1))) in
      sym (ap (λ k. many * k) rest ∙ mul-one many) ∙ was.product
