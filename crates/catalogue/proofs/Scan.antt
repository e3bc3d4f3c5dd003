-- Steps of a scan over the records of a file. Assumes nothing.
use Rattle.std.proofs.Common.{◌≡◌, ℕ, ◌<◌, ◌≤◌, true, false, List, length, refl, arith}
use Rattle.std.proofs.lemmas.Bool.{both_ways}
use Rattle.catalogue.specs.Records.{kind_at}
use Rattle.catalogue.specs.Places.{past, is_entry, Entries, none, more}

pub entries_start : {bs : List ℕ} {at to : ℕ} → Entries bs at to → at < length bs
entries_start (none h e) = h
entries_start (more h e r) = h

pub entries_order : {bs : List ℕ} {at to : ℕ} → Entries bs at to → at ≤ to
entries_order (none h e) = omega arith
entries_order (more h e r) = omega (arith, entries_order r)

pub entries_end_inside : {bs : List ℕ} {at to : ℕ} → Entries bs at to → to < length bs
entries_end_inside (none h e) = h
entries_end_inside (more h e r) = entries_end_inside r

pub entries_next : {bs : List ℕ} {at to : ℕ} → is_entry (kind_at bs at) ≡ true → Entries bs at to → Entries bs (past bs at) to
entries_next t (none h e) = absurd (both_ways _ e t)
entries_next t (more h e r) = r

pub entries_done : {bs : List ℕ} {at to : ℕ} → is_entry (kind_at bs at) ≡ false → Entries bs at to → at ≡ to
entries_done f (none h e) = refl
entries_done f (more h e r) = absurd (both_ways _ f e)

-- what a loop over entries keeps: where those from its start end, those from its place end too
pub record Onward (bs : List ℕ) (from at : ℕ) : Type 0 where
  pub inside : at < length bs
  pub goes : (to : ℕ) → Entries bs from to → Entries bs at to

pub onward_start : (bs : List ℕ) (from to : ℕ) → Entries bs from to → Onward bs from from
onward_start bs from to r = record { inside = entries_start r; goes = λ _ s. s }

pub onward_next : (bs : List ℕ) (from at to : ℕ) → Entries bs from to → is_entry (kind_at bs at) ≡ true → Onward bs from at → Onward bs from (past bs at)
onward_next bs from at to r t o =
    record { inside = entries_start (entries_next t (o.goes to r)); goes = λ n s. entries_next t (o.goes n s) }
