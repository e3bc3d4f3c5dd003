-- Weights that are joined, in a total order. Assumes nothing.
use Rattle.std.specs.Prelude.{◌≡◌, ℕ, suc, ◌<◌, ◌⊎◌, List, [], ◌∷◌, length, slice_index, slice_index_or}

-- A totally ordered commutative monoid, whose joining never falls when a part grows.
pub record Joining (W : Type 0) : Type 1 where
  pub under : W → W → Type 0
  pub join : W → W → W
  pub none : W
  pub self : (x : W) → under x x
  pub chain : (x y z : W) → under x y → under y z → under x z
  pub tight : (x y : W) → under x y → under y x → x ≡ y
  pub either : (x y : W) → under x y ⊎ under y x
  pub comm : (x y : W) → join x y ≡ join y x
  pub assoc : (x y z : W) → join (join x y) z ≡ join x (join y z)
  pub neutral : (x : W) → join none x ≡ x
  pub grows : (x y u v : W) → under x y → under u v → under (join x u) (join y v)

module _ {W : Type 0} (J : Joining W) where
  -- all joined
  abbrev pub total : List W → W
  total [] = J.none
  total (x ∷ xs) = J.join x (total xs)

  -- the weights of a list of options joined, where w p o is the weight of option o at position p
  abbrev pub weigh : (ℕ → ℕ → W) → List ℕ → W
  weigh w [] = J.none
  weigh w (o ∷ l) = J.join (w 0 o) (weigh (λ p. w (suc p)) l)

  -- m is the least weight of the options that P allows
  pub record Least (P : ℕ → Type 0) (f : ℕ → W) (m : W) : Type 0 where
    pub at : ℕ
    pub allowed : P at
    pub is : f at ≡ m
    pub least : (o : ℕ) → P o → J.under m (f o)

-- l has n options, each allowed at its position
pub record Picked (P : ℕ → ℕ → Type 0) (n : ℕ) (l : List ℕ) : Type 0 where
  pub long : length l ≡ n
  pub each : (p : ℕ) → p < n → P p (slice_index l p)

-- some list of n allowed options has o at p, and its weights joined are at most the cap
pub record Light {W : Type 0} (J : Joining W) (P : ℕ → ℕ → Type 0) (w : ℕ → ℕ → W) («cap» : W) (n p o : ℕ) : Type 0 where
  pub list : List ℕ
  pub picked : Picked P n list
  pub holds : slice_index_or list p 0 ≡ o
  pub within : J.under (weigh J w list) «cap»
