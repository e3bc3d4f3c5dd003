-- How the fit sheets' rows are laid out in runs of places, one run for each sheet. Assumes nothing.
use Rattle.std.specs.Prelude.{◌≡◌, ℕ, zero, suc, ◌+◌, ◌/◌, ◌<◌, ◌≤◌, List, [], length, ◌≢◌, slice_index, slice_index_or}
use Rattle.catalogue.specs.declared.view.View.{View}
use Rattle.sheets.specs.Tables.{shown_at, row_at}

-- the scope and the entries of sheet s
abbrev pub scope_shown : List View → ℕ → List ℕ
scope_shown views s = (shown_at views s).scope

abbrev pub entries_of : List View → ℕ → List ℕ
entries_of views s = (shown_at views s).entries

-- how many rows sheet s has
unfoldable pub row_count : List View → ℕ → ℕ
row_count views s = length (entries_of views s) / 9

-- how many rows the sheets before sheet s have
abbrev pub rows_before : List View → ℕ → ℕ
rows_before views zero = 0
rows_before views (suc s) = rows_before views s + row_count views s

-- row r of sheet s
unfoldable pub row_of : List View → ℕ → ℕ → List ℕ
row_of views s r = row_at (entries_of views s) (length (scope_shown views s)) r

-- the scopes and rows are those of a sound catalogue
pub record SoundViews (views : List View) (count : ℕ) : Type 0 where
  pub some : (s : ℕ) → s < count → 1 ≤ length (scope_shown views s)
  pub short : (s : ℕ) → s < count → length (scope_shown views s) ≤ 8
  pub slots : (s p : ℕ) → s < count → p < length (scope_shown views s) → slice_index (scope_shown views s) p < 48
  pub apart : (s p q : ℕ) → s < count → p < q → q < length (scope_shown views s) → slice_index (scope_shown views s) p ≢ slice_index (scope_shown views s) q
  pub long : (s r : ℕ) → s < count → r < row_count views s → length (row_of views s r) ≡ length (scope_shown views s)
  pub options : (s r p : ℕ) → s < count → r < row_count views s → p < length (scope_shown views s) → slice_index (row_of views s r) p < 32

-- the first k sheets' entries of a list are what f says
pub record Each (f : ℕ → ℕ) (xs : List ℕ) (k : ℕ) : Type 0 where
  pub long : length xs ≡ 64
  pub is : (s : ℕ) → s < k → slice_index xs s ≡ f s

-- n runs of places, each behind the one before
pub record RunsApart (starts counts : List ℕ) (n : ℕ) : Type 0 where
  pub few : n ≤ 64
  pub room : (s : ℕ) → s < n → slice_index starts s + slice_index counts s ≤ 4096
  pub apart : (s t : ℕ) → s < t → t < n → slice_index starts s + slice_index counts s ≤ slice_index starts t

-- the first n of a list are the numbers from 0 up
pub record Numbered (xs : List ℕ) (n : ℕ) : Type 0 where
  pub each : (p : ℕ) → p < n → slice_index xs p ≡ p

-- each of the first k runs holds the numbers from 0 up
pub record Runs (starts counts order : List ℕ) (k : ℕ) : Type 0 where
  pub each : (s p : ℕ) → s < k → p < slice_index counts s → slice_index order (slice_index starts s + p) ≡ p

-- Sheet s has the places from `starts` s on, as many as it has rows, and keeps the rows at the first `counts` s of them;
-- at mark i it kept those at the first `saved` i s.
pub record Laid (views : List View) (count : ℕ) (starts order counts : List ℕ) (saved : List (List ℕ)) (marks : ℕ) : Type 0 where
  pub sound : SoundViews views count
  pub few : count ≤ 64
  pub low : marks ≤ 72
  pub counted : length counts ≡ 64
  pub deep : length saved ≡ 72
  pub wide : (i : ℕ) → i < 72 → length (slice_index_or saved i []) ≡ 64
  pub within : (s : ℕ) → s < count → slice_index counts s ≤ row_count views s
  pub room : (s : ℕ) → s < count → slice_index starts s + row_count views s ≤ 4096
  pub apart : (s t : ℕ) → s < t → t < count → slice_index starts s + row_count views s ≤ slice_index starts t
  pub rows : (s p : ℕ) → s < count → p < row_count views s → slice_index order (slice_index starts s + p) < row_count views s
  pub above : (i s : ℕ) → i < marks → s < count → slice_index counts s ≤ slice_index (slice_index_or saved i []) s
  pub capped : (i s : ℕ) → i < marks → s < count → slice_index (slice_index_or saved i []) s ≤ row_count views s
  pub falls : (i j s : ℕ) → i < j → j < marks → s < count → slice_index (slice_index_or saved j []) s ≤ slice_index (slice_index_or saved i []) s
