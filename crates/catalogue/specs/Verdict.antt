-- What a file is judged to be: its content and counts, or its first fault. Assumes nothing.
use Rattle.std.specs.Prelude.{ℕ, zero, suc, ◌+◌, ◌-◌, Bool, false, ◌&&◌, List, [], ◌∷◌, length, Ok, Err, Result, ◌==◌}
use Rattle.catalogue.specs.declared.fault.Fault.{Fault}
use Rattle.catalogue.specs.declared.counts.Counts.{Counts}
use Rattle.catalogue.specs.Content.{Content, rows_in}
use Rattle.catalogue.specs.Records.{Rec, slot, header, row, weight, end, fault_at, judged, reading, record_at, size_of}
use Rattle.catalogue.specs.Checks.{Said, nothing, content_of, checks, after}

-- what comes next, where nothing was refused
abbrev pub onward : {X Y : Type 0} → Result X Fault → (X → Result Y Fault) → Result Y Fault
onward (Ok x) go = go x
onward (Err e) go = Err e

-- the end closes the file, and any other record is followed by the next
abbrev pub follow : (ℕ → Said → Result Content Fault) → ℕ → Said → Rec → Result Content Fault
follow rest at s (slot b) = rest (at + 2) (after s (slot b))
follow rest at s (header m b) = rest (at + size_of (header m b)) (after s (header m b))
follow rest at s (row b) = rest (at + 9) (after s (row b))
follow rest at s (weight b) = rest (at + 5) (after s (weight b))
follow rest at s end = Ok (content_of s)

abbrev pub behind : List ℕ → ℕ → ℕ
behind bs at = length bs - (at + 1)

-- one record after another, from a place on: at most so many, and each has a byte
abbrev pub content_from : ℕ → List ℕ → ℕ → Said → Result Content Fault
content_from zero bs at s = Err (fault_at 1 at)
content_from (suc n) bs at s =
    judged at (reading bs at)
    (judged at (checks (behind bs at) s (record_at bs at)) (follow (content_from n bs) at s (record_at bs at)))

-- what a file says, or its first fault
abbrev pub content : List ℕ → Result Content Fault
content bs = content_from (suc (length bs)) bs 0 nothing

abbrev pub counts_of : Content → Counts
counts_of w = record { slots = length w.options; sheets = length w.sheets; rows = rows_in w.sheets }

abbrev pub verdict : List ℕ → Result Counts Fault
verdict bs = onward (content bs) (λ w. Ok (counts_of w))

abbrev pub gives : Result Counts Fault → Counts → Bool
gives (Ok d) c = d.slots == c.slots && (d.sheets == c.sheets && d.rows == c.rows)
gives (Err e) c = false

-- the file is accepted, and holds so much
abbrev pub accepts : List ℕ → Counts → Bool
accepts bs c = gives (verdict bs) c

-- a slot of one option, a fit sheet on it with no row, and the end
abbrev pub built_in : List ℕ
built_in = 1 ∷ 1 ∷ 2 ∷ 1 ∷ 0 ∷ 255 ∷ 255 ∷ 255 ∷ 255 ∷ 255 ∷ 255 ∷ 255 ∷ 7 ∷ []

abbrev pub built_in_counts : Counts
built_in_counts = record { slots = 1; sheets = 1; rows = 0 }
