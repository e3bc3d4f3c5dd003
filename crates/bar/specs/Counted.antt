-- How many numbers below a limit meet a condition, and products of such counts. Assumes nothing.
use Rattle.std.specs.Prelude.{◌≡◌, ℕ, ◌*◌, ◌<◌, ◌≤◌, ◌⊎◌, List, [], ◌∷◌, length}

module _ {A : Type 0} where
  -- x is in the list
  abbrev pub In : A → List A → Type 0
  In x [] = ⊥
  In x (y ∷ ys) = (x ≡ y) ⊎ In x ys

  -- no two places of the list hold the same
  abbrev pub NoDup : List A → Type 0
  NoDup [] = Unit {0}
  NoDup (x ∷ xs) = (In x xs → ⊥) × NoDup xs

-- exactly c of the numbers below n meet P, and these are they
pub record HowMany (P : ℕ → Type 0) (n c : ℕ) : Type 0 where
  pub list : List ℕ
  pub long : length list ≡ c
  pub once : NoDup list
  pub sound : (v : ℕ) → In v list → (v < n) × P v
  pub complete : (v : ℕ) → v < n → P v → In v list
  pub few : c ≤ n

abbrev pub product : List ℕ → ℕ
product [] = 1
product (n ∷ ns) = n * product ns
