-- The total of some weights, and of all but one. Assumes nothing.
use Rattle.std.proofs.Common.{◌≡◌, ℕ, ◌+◌, ◌*◌, ◌<◌, List, length, get_or, drop, ℤ, pos, ◌+ℤ◌, ◌-ℤ◌, neg_ℤ, ◌≤ℤ◌, sym, ap, ◌∙◌, arith}
use Rattle.std.proofs.lemmas.List.{at_drop_more, set-get_or}
use Rattle.std.proofs.lemmas.Int.{ints}
use Rattle.load.specs.Joins.{total}
use Rattle.load.specs.Sums.{sums}
use Rattle.load.specs.Weights.{Small, rest_of}
use Rattle.load.proofs.Joining.{total_set}

-- a sum, and the weights from place i on that are still to be added, come to the whole, and the sum is not large
pub record SummedTo (ms : List ℤ) (i : ℕ) (sum : ℤ) : Type 0 where
  pub whole : sum +ℤ total sums (drop i ms) ≡ total sums ms
  pub low : neg_ℤ (pos (32768 * i)) ≤ℤ sum
  pub high : sum ≤ℤ pos (32768 * i)

pub summed_more : (ms : List ℤ) (i : ℕ) (sum : ℤ) → SummedTo ms i sum → i < length ms → Small (get_or ms i (pos 0)) → SummedTo ms (i + 1) (sum +ℤ get_or ms i (pos 0))
summed_more ms i sum was h sm =
    let x : ℤ = get_or ms i (pos 0) in
    let l = sm.low in
    let k = sm.high in
    let lo = was.low in
    let hi = was.high in
    let rest : ℤ = total sums (drop (i + 1) ms) in
    let split : total sums (drop i ms) ≡ x +ℤ rest = at_drop_more (total sums) ms i (pos 0) h in
    record {
      whole = sums.assoc sum x rest ∙ ap (λ y. sum +ℤ y) (sym split) ∙ was.whole;
      low = omega (arith, ints);
      high = omega (arith, ints);
    }

-- the whole without one of them
pub rest_is : (ms : List ℤ) (p : ℕ) (r : ℤ) → p < length ms → r ≡ total sums ms -ℤ get_or ms p (pos 0) → r ≡ rest_of ms p
rest_is ms p r h e =
    let x : ℤ = get_or ms p (pos 0) in
    let whole : total sums ms ≡ x +ℤ rest_of ms p = ap (total sums) (sym (set-get_or ms p (pos 0))) ∙ total_set sums ms p x h in
    omega (arith, ints, e, whole)
