-- Where the sheets of a file lie: what a scan over its records rests on. Assumes nothing.
use Rattle.std.specs.Prelude.{◌≡◌, ℕ, ◌+◌, ◌-◌, ◌<◌, ◌≤◌, Bool, true, false, ◌||◌, List, [], ◌∷◌, length, take, drop, ◌==◌, slice_index_or}
use Rattle.catalogue.specs.Content.{Sheet}
use Rattle.catalogue.specs.Writing.{kind_of, entry_bytes}
use Rattle.catalogue.specs.Records.{body_len, kind_at}
use Rattle.catalogue.specs.Checks.{scope_of, cap_of}

-- where the record at a place ends
abbrev pub past : List ℕ → ℕ → ℕ
past bs at = at + (1 + body_len (kind_at bs at))

-- rows and weights are the entries of a sheet
abbrev pub is_entry : ℕ → Bool
is_entry k = k == 5 || k == 6

-- entries lie one behind another, from a place up to one where another record begins
pub data Entries (bs : List ℕ) : ℕ → ℕ → Type 0 where
  none : {at : ℕ} → at < length bs → is_entry (kind_at bs at) ≡ false → Entries bs at at
  more : {at to : ℕ} → at < length bs → is_entry (kind_at bs at) ≡ true → Entries bs (past bs at) to → Entries bs at to

-- a sheet lies from a place, where its header is, up to another
pub record SheetLies (bs : List ℕ) (at : ℕ) (t : Sheet) (to : ℕ) : Type 0 where
  pub header : past bs at < length bs
  pub kind : kind_at bs at ≡ kind_of t.make
  pub few : slice_index_or bs (at + 1) 0 ≤ 8  -- so many slots it names
  pub scope : scope_of (drop (at + 1) bs) ≡ t.scope
  pub «cap» : cap_of t.make (drop (at + 1) bs) ≡ t.«cap»
  pub entries : Entries bs (past bs at) to
  pub shown : take (to - past bs at) (drop (past bs at) bs) ≡ entry_bytes t

-- from a place on lie these sheets and nothing else, and then the end
pub data Ahead (bs : List ℕ) : ℕ → List Sheet → Type 0 where
  end : {at : ℕ} → at < length bs → kind_at bs at ≡ 7 → Ahead bs at []
  next : {at to : ℕ} {t : Sheet} {ts : List Sheet} → SheetLies bs at t to → Ahead bs to ts → Ahead bs at (t ∷ ts)
