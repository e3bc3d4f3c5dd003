-- What a showing of a bar sheet counts, and the options that it finds supported. Assumes nothing.
use Rattle.std.specs.Prelude.{◌≡◌, ℕ, ◌+◌, ◌<◌, ◌≤◌, List, [], length, ◌≢◌, slice_index, slice_index_or, slice_set}
use Rattle.boxes.specs.Boxes.{Open, Fits, Bit}
use Rattle.sheets.specs.Tables.{row_at}
use Rattle.bar.specs.Counted.{HowMany, product}

-- n is how many options are open at position p of the scope, and past its last position it is 1
pub record Measures (b scope : List ℕ) (p n : ℕ) : Type 0 where
  pub counts : p < length scope → HowMany (Open b (slice_index scope p)) 32 n
  pub past : length scope ≤ p → n ≡ 1
  pub few : n ≤ 32

-- row r fits the box, and has option o at position p
pub record Bears (b scope entries : List ℕ) (p o r : ℕ) : Type 0 where
  pub fits : Fits b scope (row_at entries (length scope) r)
  pub has : slice_index (row_at entries (length scope) r) p ≡ o

-- ys is the table xs with a row counted once at each of its first n positions, under the option that it has there
pub record Tallied (options : List ℕ) (n : ℕ) (xs ys : List (List ℕ)) : Type 0 where
  pub hit : (p : ℕ) → p < n → slice_index (slice_index_or ys p []) (slice_index options p) ≡ slice_index (slice_index_or xs p []) (slice_index options p) + 1
  pub miss : (p o : ℕ) → (p < n → slice_index options p ≢ o) → slice_index (slice_index_or ys p []) o ≡ slice_index (slice_index_or xs p []) o

-- option o is counted fewer than `many` times
pub record Fewer (counts : List ℕ) (many o : ℕ) : Type 0 where
  pub less : slice_index counts o < many

-- option o of position p is counted fewer times than there are lists over the other sizes
pub record Room (counts sizes : List ℕ) (p o : ℕ) : Type 0 where
  pub room : slice_index counts o < product (slice_set sizes p 1)

-- the bits of a mask are the numbers below n that meet P
pub record Marks (P : ℕ → Type 0) (n mask : ℕ) : Type 0 where
  pub sound : (o : ℕ) → Bit mask o → (o < n) × P o
  pub complete : (o : ℕ) → o < n → P o → Bit mask o

-- no two of the first `total` rows read the same
abbrev pub RowsApart : List ℕ → ℕ → ℕ → Type 0
RowsApart entries k total = (u v : ℕ) → u < v → v < total → row_at entries k u ≢ row_at entries k v

-- some list fits the box, is none of the first `total` rows, and has option o at position p
pub record Spared (b scope entries : List ℕ) (total p o : ℕ) : Type 0 where
  pub list : List ℕ
  pub fits : Fits b scope list
  pub holds : slice_index_or list p 0 ≡ o
  pub free : (r : ℕ) → r < total → row_at entries (length scope) r ≢ list

-- an open option has its bit in the mask of a position exactly where it is spared there
pub record Backs (b scope entries : List ℕ) (total : ℕ) (masks : List ℕ) : Type 0 where
  pub sound : (p o : ℕ) → p < length scope → Open b (slice_index scope p) o → Bit (slice_index masks p) o → Spared b scope entries total p o
  pub complete : (p o : ℕ) → p < length scope → Spared b scope entries total p o → Bit (slice_index masks p) o
