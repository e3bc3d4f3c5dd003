-- Rows as they lie in a sheet's entries, nine bytes each, and the options that they hold. Assumes nothing.
use Rattle.std.specs.Prelude.{◌≡◌, ℕ, ◌+◌, ◌*◌, ◌<◌, ◌≤◌, List, length, slice_index}
use Rattle.boxes.specs.Boxes.{Open, Fits, Bit}
use Rattle.sheets.specs.Tables.{row_at, option_at}

-- row r fits b
pub record Suits (b scope entries : List ℕ) (r : ℕ) : Type 0 where
  pub fits : Fits b scope (row_at entries (length scope) r)

-- the rows of these numbers are there
pub record Whole (rows entries : List ℕ) : Type 0 where
  pub each : (p : ℕ) → p < length rows → 9 * slice_index rows p + 9 ≤ length entries

-- and their options are below 32 at the first k positions
pub record Low (rows entries : List ℕ) (k : ℕ) : Type 0 where
  pub each : (q p : ℕ) → q < length rows → p < k → option_at entries (slice_index rows q) p < 32

-- of each position of a scope the cell of its slot in b
pub record CellsAt (b scope cells : List ℕ) : Type 0 where
  pub long : length cells ≡ 8
  pub each : (p : ℕ) → p < length scope → slice_index cells p ≡ slice_index b (slice_index scope p)

-- the cells of the first n positions open the options of row r
pub record OpenAlong (cells entries : List ℕ) (r n : ℕ) : Type 0 where
  pub each : (p : ℕ) → p < n → Bit (slice_index cells p) (option_at entries r p)

-- one of the first n rows has option o at position p
pub record Backed (rows entries : List ℕ) (n p o : ℕ) : Type 0 where
  pub place : ℕ
  pub below : place < n
  pub has : option_at entries (slice_index rows place) p ≡ o

-- the bits of a mask are the options that the first n rows have at position p
pub record Held (rows entries : List ℕ) (n p mask : ℕ) : Type 0 where
  pub sound : (o : ℕ) → Bit mask o → Backed rows entries n p o
  pub complete : (o : ℕ) → Backed rows entries n p o → Bit mask o

-- The mask of position p: its bits are options that the first n rows have, and of those all that b has open.
pub record Mask (b scope rows entries : List ℕ) (n p mask : ℕ) : Type 0 where
  pub sound : (o : ℕ) → Bit mask o → Backed rows entries n p o
  pub complete : (o : ℕ) → Backed rows entries n p o → Open b (slice_index scope p) o → Bit mask o

-- the masks of the first k positions, from all rows
pub record Gathered (b scope rows entries masks : List ℕ) (k : ℕ) : Type 0 where
  pub long : length masks ≡ 8
  pub each : (p : ℕ) → p < k → Mask b scope rows entries (length rows) p (slice_index masks p)
