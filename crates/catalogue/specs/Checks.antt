-- What the records so far have said, and the checks of one record more. Assumes nothing.
use Rattle.std.specs.Prelude.{ℕ, ◌+◌, ◌-◌, ◌*◌, Bool, true, false, not, ◌&&◌, ◌||◌, ltb, leb, List, [], ◌∷◌, ◌++◌, length, take, drop, ℤ, pos, negsuc, Some, None, Option, ◌==◌, int_lt, nat_eq, nat_le, nat_lt, slice_index}
use Rattle.std.proofs.Common.{to_z}
use Rattle.std.specs.Int.{w16, w32}
use Rattle.catalogue.specs.declared.make.Make.{Make}
use Rattle.catalogue.specs.declared.make.Make.TheVariants.{Fit, Bar, Load}
use Rattle.catalogue.specs.Content.{Weight, Sheet, Content, rows_in, loads_in, places}
use Rattle.catalogue.specs.Records.{Rec, slot, header, row, weight, end, Check, ◌when◌, between}

-- what the records so far have said: the slots, the sheets before the newest, and the newest, if any
pub record Said : Type 0 where
  pub options : List ℕ
  pub earlier : List Sheet
  pub newest : Option Sheet

abbrev pub nothing : Said
nothing = record { options = []; earlier = []; newest = None }

abbrev pub listed : Option Sheet → List Sheet
listed None = []
listed (Some t) = t ∷ []

abbrev pub sheets_of : Said → List Sheet
sheets_of s = s.earlier ++ listed s.newest

abbrev pub content_of : Said → Content
content_of s = record { options = s.options; sheets = sheets_of s }

-- tests of lists
abbrev pub all : (ℕ → Bool) → List ℕ → Bool
all p [] = true
all p (x ∷ xs) = p x && all p xs

abbrev pub has : ℕ → List ℕ → Bool
has x [] = false
has x (y ∷ ys) = x == y || has x ys

abbrev pub same : List ℕ → List ℕ → Bool
same [] [] = true
same [] (y ∷ ys) = false
same (x ∷ xs) [] = false
same (x ∷ xs) (y ∷ ys) = x == y && same xs ys

abbrev pub has_list : List ℕ → List (List ℕ) → Bool
has_list x [] = false
has_list x (y ∷ ys) = same x y || has_list x ys

-- a byte that is not used
abbrev pub unused : ℕ → Bool
unused b = b == 255

-- the slots that a header's body names: its first byte says how many
abbrev pub scope_of : List ℕ → List ℕ
scope_of b = take (slice_index b 0) (drop 1 b)

abbrev pub well_sized : List ℕ → Bool
well_sized b = between 1 8 (slice_index b 0) && all unused (take (8 - slice_index b 0) (drop (1 + slice_index b 0) b))

-- each slot is one of n, and none is named again
abbrev pub well_scoped : ℕ → List ℕ → Bool
well_scoped n [] = true
well_scoped n (s ∷ ss) = nat_lt s n && (not (has s ss) && well_scoped n ss)

-- a row's body has an option for each slot of the scope, and is not used behind them
abbrev pub well_filled : List ℕ → List ℕ → List ℕ → Bool
well_filled options [] xs = all unused xs
well_filled options (s ∷ ss) [] = false
well_filled options (s ∷ ss) (x ∷ xs) = nat_lt x (slice_index options s) && well_filled options ss xs

-- signed numbers are two's complement, low byte first
abbrev pub signed_two : List ℕ → ℤ
signed_two b = to_z w16 (slice_index b 0 + slice_index b 1 * 256)

abbrev pub signed_four : List ℕ → ℤ
signed_four b = to_z w32 (slice_index b 0 + slice_index b 1 * 256 + slice_index b 2 * 65536 + slice_index b 3 * 16777216)

-- what a weight's body says
abbrev pub weight_of : List ℕ → Weight
weight_of b = record { position = slice_index b 0; option = slice_index b 1; amount = signed_two (drop 2 b) }

-- from -30,000 to 30,000
abbrev pub in_range : ℤ → Bool
in_range z = not (int_lt z (negsuc 29999)) && not (int_lt (pos 30000) z)

-- a weight is of an option of a slot of the scope, and in range
abbrev pub well_weighed : List ℕ → List ℕ → Weight → Bool
well_weighed options scope w =
    nat_lt w.position (length scope) && (nat_lt w.option (slice_index options (slice_index scope w.position)) && in_range w.amount)

-- the newest sheet, if any
abbrev pub is_load : Make → Bool
is_load Fit = false
is_load Bar = false
is_load Load = true

abbrev pub is_some : Option Sheet → Bool
is_some None = false
is_some (Some t) = true

abbrev pub takes_rows : Option Sheet → Bool
takes_rows None = false
takes_rows (Some t) = not (is_load t.make)

abbrev pub takes_weights : Option Sheet → Bool
takes_weights None = false
takes_weights (Some t) = is_load t.make

abbrev pub scope_in : Option Sheet → List ℕ
scope_in None = []
scope_in (Some t) = t.scope

abbrev pub rows_of : Option Sheet → List (List ℕ)
rows_of None = []
rows_of (Some t) = t.rows

abbrev pub places_of : Option Sheet → List (List ℕ)
places_of None = []
places_of (Some t) = places t.weights

-- The checks of a record, in their order, in a file with so many bytes behind the record.
abbrev pub checks : ℕ → Said → Rec → List Check
checks behind s (slot b) =
    (4 when is_some s.newest) ∷
    (5 when leb 48 (length s.options)) ∷
    (6 when not (between 1 32 (slice_index b 0))) ∷ []
checks behind s (header m b) =
    (5 when (nat_le 64 (length (sheets_of s)) || (is_load m && nat_le 8 (loads_in (sheets_of s))))) ∷
    (7 when not (well_sized b)) ∷
    (8 when not (well_scoped (length s.options) (scope_of b))) ∷ []
checks behind s (row b) =
    (4 when not (takes_rows s.newest)) ∷
    (5 when leb 4096 (rows_in (sheets_of s))) ∷
    (9 when not (well_filled s.options (scope_in s.newest) b)) ∷
    (10 when has_list (take (length (scope_in s.newest)) b) (rows_of s.newest)) ∷ []
checks behind s (weight b) =
    (4 when not (takes_weights s.newest)) ∷
    (11 when not (well_weighed s.options (scope_in s.newest) (weight_of b))) ∷
    (12 when has_list (take 2 b) (places_of s.newest)) ∷ []
checks behind s end =
    (13 when nat_eq (length s.options) 0) ∷
    (14 when ltb 0 behind) ∷ []

-- what a record adds
abbrev pub cap_of : Make → List ℕ → ℤ
cap_of Fit b = pos 0
cap_of Bar b = pos 0
cap_of Load b = signed_four (drop 9 b)

abbrev pub fresh : Make → List ℕ → Sheet
fresh m b = record { make = m; scope = scope_of b; «cap» = cap_of m b; rows = []; weights = [] }

abbrev pub add_row : List ℕ → Option Sheet → Option Sheet
add_row b None = None
add_row b (Some t) = Some (record { make = t.make; scope = t.scope; «cap» = t.«cap»; rows = t.rows ++ take (length t.scope) b ∷ []; weights = t.weights })

abbrev pub add_weight : List ℕ → Option Sheet → Option Sheet
add_weight b None = None
add_weight b (Some t) = Some (record { make = t.make; scope = t.scope; «cap» = t.«cap»; rows = t.rows; weights = t.weights ++ weight_of b ∷ [] })

abbrev pub after : Said → Rec → Said
after s (slot b) = record { options = s.options ++ slice_index b 0 ∷ []; earlier = s.earlier; newest = s.newest }
after s (header m b) = record { options = s.options; earlier = sheets_of s; newest = Some (fresh m b) }
after s (row b) = record { options = s.options; earlier = s.earlier; newest = add_row b s.newest }
after s (weight b) = record { options = s.options; earlier = s.earlier; newest = add_weight b s.newest }
after s end = s
