-- The weights that a sheet's entries give, and the table that is read from them. Assumes nothing.
use Rattle.std.specs.Prelude.{◌≡◌, ℕ, ◌+◌, ◌*◌, ◌<◌, List, [], ◌∷◌, length, ℤ, pos, slice_index, slice_index_or}
use Rattle.catalogue.specs.Content.{Weight}
use Rattle.catalogue.specs.Checks.{signed_two}
use Rattle.sheets.specs.Rules.{weight_in}
use Rattle.load.specs.Weights.{weighs}

-- past the last weight
abbrev pub no_weight : Weight
no_weight = record { position = 0; option = 0; amount = pos 0 }

-- the amount of the weight at i: weights are five bytes long, the last two are the amount
abbrev pub amount_at : List ℕ → ℕ → ℤ
amount_at entries i = signed_two (slice_index entries (5 * i + 3) ∷ slice_index entries (5 * i + 4) ∷ [])

-- the entries are these weights, each of one of eight positions and 32 options
pub record Gives (entries : List ℕ) (ws : List Weight) : Type 0 where
  pub long : length entries ≡ 5 * length ws
  pub position : (i : ℕ) → i < length ws → slice_index entries (5 * i + 1) ≡ (slice_index_or ws i no_weight).position
  pub option : (i : ℕ) → i < length ws → slice_index entries (5 * i + 2) ≡ (slice_index_or ws i no_weight).option
  pub amount : (i : ℕ) → i < length ws → amount_at entries i ≡ (slice_index_or ws i no_weight).amount
  pub placed : (i : ℕ) → i < length ws → (slice_index_or ws i no_weight).position < 8
  pub known : (i : ℕ) → i < length ws → (slice_index_or ws i no_weight).option < 32

-- the entries are some weights
pub record Giving (entries : List ℕ) : Type 0 where
  pub weights : List Weight
  pub gives : Gives entries weights

-- by the table each option weighs what the weights say
pub record Tells (table : List (List ℤ)) (ws : List Weight) : Type 0 where
  pub is : (p o : ℕ) → o < 32 → weighs table p o ≡ weight_in ws p o

-- whichever weights the entries are, the table tells them
abbrev pub TellsAll : List ℕ → List (List ℤ) → Type 0
TellsAll entries table = (ws : List Weight) → Gives entries ws → Tells table ws
