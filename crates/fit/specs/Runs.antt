-- Runs of places, and a run that is sifted: what is not good leaves its front. Assumes nothing.
use Rattle.std.specs.Prelude.{◌≡◌, ℕ, ◌+◌, ◌<◌, ◌≤◌, List, length, slice_index, slice_index_or}

-- one of the n places from `from` on holds v
pub record Among (xs : List ℕ) (from n v : ℕ) : Type 0 where
  pub place : ℕ
  pub below : place < n
  pub is : slice_index_or xs (from + place) 0 ≡ v

-- one of the first n of a list is v
pub record InFront (xs : List ℕ) (n v : ℕ) : Type 0 where
  pub place : ℕ
  pub below : place < n
  pub is : slice_index xs place ≡ v

-- ys has what xs has, in some order, and its first k are those that are good
pub record Sifted (Good : ℕ → Type 0) (xs ys : List ℕ) (k : ℕ) : Type 0 where
  pub long : length ys ≡ length xs
  pub fewer : k ≤ length xs
  pub into : (v : ℕ) → InFront xs (length xs) v → InFront ys (length xs) v
  pub back : (v : ℕ) → InFront ys (length xs) v → InFront xs (length xs) v
  pub good : (p : ℕ) → p < k → Good (slice_index ys p)
  pub still : (v : ℕ) → InFront xs (length xs) v → Good v → InFront ys k v
