-- The sum of integers, as a joining. Assumes nothing.
use Rattle.std.specs.Prelude.{◌⊎◌, ℤ, pos, ◌+ℤ◌, ◌≤ℤ◌}
use Rattle.std.proofs.Common.{inl, inr, arith}
use Rattle.std.proofs.lemmas.Int.{ints, by_lt_z}
use Rattle.load.specs.Joins.{Joining}

pub either_way : (x y : ℤ) → (x ≤ℤ y) ⊎ (y ≤ℤ x)
either_way x y = by_lt_z x y (λ h. inl (omega (arith, ints))) (λ h. inr h)

abbrev pub sums : Joining ℤ
sums =
    record {
      under = ◌≤ℤ◌;
      join = ◌+ℤ◌;
      none = pos 0;
      self = λ x. omega (arith, ints);
      chain = λ x y z h k. omega (arith, ints);
      tight = λ x y h k. omega (arith, ints);
      either = either_way;
      comm = λ x y. omega (arith, ints);
      assoc = λ x y z. omega (arith, ints);
      neutral = λ x. omega (arith, ints);
      grows = λ x y u v h k. omega (arith, ints);
    }
