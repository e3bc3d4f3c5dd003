-- What the verdict on a file means, in the words of slots and sheets. Assumes nothing.
use Rattle.std.specs.Prelude.{◌≡◌, ℕ, ◌+◌, ◌<◌, ◌≤◌, true, false, List, [], ◌∷◌, ◌++◌, length, Ok, Err, Result, ◌≢◌, slice_index}
use Rattle.catalogue.specs.declared.checked.TheConstants.{LONGEST}
use Rattle.catalogue.specs.declared.counts.Counts.{Counts}
use Rattle.catalogue.specs.declared.fault.Fault.{Fault}
use Rattle.catalogue.specs.Content.{Content, Sound}
use Rattle.catalogue.specs.Writing.{written}
use Rattle.catalogue.specs.Records.{Rec, slot, header, row, weight, end, Check, ◌when◌, fault_at, reading, record_at, size_of}
use Rattle.catalogue.specs.Checks.{Said, nothing, checks, after}
use Rattle.catalogue.specs.Verdict.{behind, content, counts_of}

-- each number is one of a byte
abbrev pub Octets : List ℕ → Type 0
Octets bs = (i : ℕ) → slice_index bs i < 256

-- all checks of the record at a place, after what the records before it said: first those of reading it
abbrev pub checks_at : List ℕ → ℕ → Said → List Check
checks_at bs at s = reading bs at ++ checks (behind bs at) s (record_at bs at)

-- none of the checks fails
pub data Passes : List Check → Type 0 where
  none : Passes []
  next : {n : ℕ} {cs : List Check} → Passes cs → Passes ((n when false) ∷ cs)

-- check n fails, and none of those before it
pub data First (n : ℕ) : List Check → Type 0 where
  here : {cs : List Check} → First n ((n when true) ∷ cs)
  later : {m : ℕ} {cs : List Check} → First n cs → First n ((m when false) ∷ cs)

-- a record that is not the end
abbrev pub Inner : Rec → Type 0
Inner (slot b) = Unit {0}
Inner (header m b) = Unit {0}
Inner (row b) = Unit {0}
Inner (weight b) = Unit {0}
Inner end = ⊥

-- The records from the front of a file up to a place pass all their checks, and say so much.
pub data Passed (bs : List ℕ) : ℕ → Said → Type 0 where
  start : Passed bs 0 nothing
  step : {at : ℕ} {s : Said} → Passed bs at s → Passes (checks_at bs at s) → Inner (record_at bs at) → Passed bs (at + size_of (record_at bs at)) (after s (record_at bs at))

-- A fault names the first check that fails: all records before pass, and so do the record's earlier checks.
pub record FirstFault (bs : List ℕ) (f : Fault) : Type 0 where
  pub from : ℕ  -- where the record that failed begins
  pub said : Said
  pub before : Passed bs from said
  pub first : First f.number (checks_at bs from said)
  pub is : f ≡ fault_at f.number from
  pub at_end : f.number ≡ 1 → f.place ≡ length bs

-- The file is the writing of a sound list of slots and sheets, and of no other; these are its counts. It has at most
-- as many bytes as the constant says, so whoever reads so many reads it whole.
pub record Accepted (bs : List ℕ) (c : Counts) : Type 0 where
  pub list : Content
  pub is : content bs ≡ Ok list
  pub sound : Sound list
  pub writes : written list ≡ bs
  pub counts : counts_of list ≡ c
  pub short : length bs ≤ LONGEST
  pub only : (w : Content) → Sound w → written w ≡ bs → w ≡ list

-- The file is the writing of no sound list, and the fault is its first.
pub record Refused (bs : List ℕ) (f : Fault) : Type 0 where
  pub unsound : (w : Content) → Sound w → written w ≢ bs
  pub first : FirstFault bs f

-- what an answer means
abbrev pub Means : List ℕ → Result Counts Fault → Type 0
Means bs (Ok c) = Accepted bs c
Means bs (Err f) = Refused bs f
