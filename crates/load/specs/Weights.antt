-- What the options of a sheet weigh by its table, and which of them are supported. Assumes nothing.
use Rattle.std.specs.Prelude.{◌≡◌, ℕ, ◌+◌, ◌^◌, ◌<◌, ◌≤◌, List, [], ◌∷◌, length, get_or, ℤ, pos, negsuc, ◌+ℤ◌, ◌≤ℤ◌, Some, None, Option, slice_index, slice_index_or, slice_set}
use Rattle.boxes.specs.Boxes.{Open, Fits, Bit}
use Rattle.load.specs.Joins.{total, weigh, Least}
use Rattle.load.specs.Sums.{sums}

-- what option o weighs by the weights of one position
unfoldable pub weight_of : List ℤ → ℕ → ℤ
weight_of weights o = slice_index_or weights o (pos 0)

-- what option o weighs at position p by a table, which has the weights of each position
abbrev pub weighs : List (List ℤ) → ℕ → ℕ → ℤ
weighs table p o = weight_of (slice_index_or table p []) o

-- some list that fits the box has option o at position p, and its weights total at most the cap
pub record Supported (table : List (List ℤ)) («cap» : ℤ) (scope b : List ℕ) (p o : ℕ) : Type 0 where
  pub list : List ℕ
  pub within : weigh sums (weighs table) list ≤ℤ «cap»
  pub fits : Fits b scope list
  pub holds : get_or list p 0 ≡ o

-- the masks are the supported options, position by position
pub record Supports (table : List (List ℤ)) («cap» : ℤ) (scope b masks : List ℕ) : Type 0 where
  pub long : length masks ≡ 8
  pub sound : (p o : ℕ) → p < length scope → Bit (slice_index masks p) o → Supported table «cap» scope b p o
  pub complete : (p o : ℕ) → p < length scope → Supported table «cap» scope b p o → Bit (slice_index masks p) o

-- what 16 bits hold
pub record Small (z : ℤ) : Type 0 where
  pub low : negsuc 32767 ≤ℤ z
  pub high : z ≤ℤ pos 32767

-- a total of up to eight of them
pub record Summed (z : ℤ) : Type 0 where
  pub low : negsuc 262143 ≤ℤ z
  pub high : z ≤ℤ pos 262144

-- such a total without one of them, with room
pub record Roomy (z : ℤ) : Type 0 where
  pub low : negsuc 999999 ≤ℤ z
  pub high : z ≤ℤ pos 1000000

-- option o of a cell is open
abbrev pub OpenIn : ℕ → ℕ → Type 0
OpenIn cell o = Open (cell ∷ []) 0 o

-- o is the highest of some options
pub record Highest (options o : ℕ) : Type 0 where
  pub small : o < 32
  pub top : 2 ^ o ≤ options
  pub above : options < 2 ^ (o + 1)

-- o is the highest of some options, and `left` are the others
pub record Peeled (options o left : ℕ) : Type 0 where
  pub highest : Highest options o
  pub others : options ≡ left + 2 ^ o

-- what a call gives of some options, and which are left then
abbrev pub PeelsOff : ℕ → Option ℕ → ℕ → Type 0
PeelsOff options None left = (options ≡ 0) × (left ≡ 0)
PeelsOff options (Some o) left = Peeled options o left

-- m is the least weight of those that P allows
pub record Lowest (P : ℕ → Type 0) (f : ℕ → ℤ) (m : ℤ) : Type 0 where
  pub small : Small m
  pub least : Least sums P f m

-- the least weight of those that P allows, or none if it allows none
abbrev pub LowestOf : (P : ℕ → Type 0) (f : ℕ → ℤ) → Option ℤ → Type 0
LowestOf P f None = (o : ℕ) → P o → ⊥
LowestOf P f (Some m) = Lowest P f m

-- the cell of the slot at a position
abbrev pub cell_at : List ℕ → List ℕ → ℕ → ℕ
cell_at b scope p = slice_index b (slice_index scope p)

-- the least weight at each of the first n positions
abbrev pub LowestAt : (b scope : List ℕ) (table : List (List ℤ)) → ℕ → List ℤ → Type 0
LowestAt b scope table n ms = (p : ℕ) → p < n → Lowest (OpenIn (cell_at b scope p)) (weighs table p) (slice_index_or ms p (pos 0))

-- a slot of the scope has no option open
pub record Bare (b scope : List ℕ) : Type 0 where
  pub position : ℕ
  pub here : position < length scope
  pub bare : (o : ℕ) → OpenIn (cell_at b scope position) o → ⊥

-- the least weights, or a slot has no option open
abbrev pub Leasts : (b scope : List ℕ) (table : List (List ℤ)) → Option (List ℤ) → Type 0
Leasts b scope table None = Bare b scope
Leasts b scope table (Some ms) = (length ms ≡ 8) × LowestAt b scope table (length scope) ms

-- the total of all but the one at p
abbrev pub rest_of : List ℤ → ℕ → ℤ
rest_of ms p = total sums (slice_set ms p (pos 0))

-- option o of a cell is open, and its weight with the rest is at most the cap
pub record Allowed (weights : List ℤ) (rest «cap» : ℤ) (cell o : ℕ) : Type 0 where
  pub is_open : OpenIn cell o
  pub fits : (weight_of weights o +ℤ rest) ≤ℤ «cap»

-- the bits of the mask are the options that meet P
pub record Masked (P : ℕ → Type 0) (mask : ℕ) : Type 0 where
  pub sound : (o : ℕ) → Bit mask o → P o
  pub complete : (o : ℕ) → P o → Bit mask o

-- the same at each of the first n positions, where the rest is the least of the others
abbrev pub MaskedAt : (b scope : List ℕ) (table : List (List ℤ)) (ms : List ℤ) («cap» : ℤ) → ℕ → List ℕ → Type 0
MaskedAt b scope table ms limit n masks =
    (p : ℕ) → p < n → Masked (Allowed (slice_index_or table p []) (rest_of ms p) limit (cell_at b scope p)) (slice_index masks p)
