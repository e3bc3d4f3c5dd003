-- A sound list of slots and sheets is read back from the file that it is written as. Assumes nothing.
use Rattle.std.proofs.Common.{◌≡◌, ℕ, suc, ◌+◌, ◌-◌, ◌<◌, ◌≤◌, true, false, not, ◌&&◌, leb, List, [], ◌∷◌, ◌++◌, length, drop, ℤ, Some, None, Ok, Result, sym, refl, ap, ◌∙◌, subst, append_assoc, arith, w32, SFits}
use Rattle.std.specs.List.{flat_map}
use Rattle.std.proofs.lemmas.List.{length-append}
use Rattle.std.proofs.lemmas.Bool.{lt-leb, le-leb, ne_eqb, and_from, or_from, not_from_true}
use Rattle.catalogue.specs.declared.fault.Fault.{Fault}
use Rattle.catalogue.specs.declared.make.Make.{Make}
use Rattle.catalogue.specs.declared.make.Make.TheVariants.{Fit, Bar, Load}
use Rattle.catalogue.specs.Content.{Weight, Sheet, Content, rows_in, is_one, loads_in, GoodRow, GoodWeight, place, places, Lacks, GoodSheet, Sound}
use Rattle.catalogue.specs.Writing.{padded, two_bytes, slot_bytes, row_bytes, weight_bytes, kind_of, cap_bytes, head_bytes, entry_bytes, sheet_bytes, written}
use Rattle.catalogue.specs.Records.{slot, header, row, weight, header_size}
use Rattle.catalogue.specs.Checks.{Said, nothing, sheets_of, content_of, is_load, cap_of, scope_of, well_scoped, well_weighed, has_list, signed_four, fresh}
use Rattle.catalogue.specs.Verdict.{content}
use Rattle.catalogue.specs.Law.{none}
use Rattle.catalogue.proofs.Reading.{Framed, ReadsTo, passes, gives_more, gives_end, one_by_one}
use Rattle.catalogue.proofs.Passing.{four_back, weight_back, weighs_well, length_padded, length_row, fills_well, row_back, all_mid, not_yet, scopes_well, scope_back, sizes_well, tail_back, places_append}

-- a list is as long as what stands before an element, the element, and what stands behind it
length_mid : {X : Type 0} {all : List X} (done : List X) (x : X) (left : List X) → done ++ x ∷ left ≡ all → length all ≡ length done + suc (length left)
length_mid done x left e = sym (ap length e) ∙ length-append done (x ∷ left)

-- the rows and the load sheets of two lists add up
pub rows_append : (ts us : List Sheet) → rows_in (ts ++ us) ≡ rows_in ts + rows_in us
rows_append [] us = omega arith
rows_append (t ∷ ts) us = omega (arith, rows_append ts us)

pub loads_append : (ts us : List Sheet) → loads_in (ts ++ us) ≡ loads_in ts + loads_in us
loads_append [] us = omega arith
loads_append (t ∷ ts) us = omega (arith, loads_append ts us)

-- what is said where only slots were read
abbrev slots : List ℕ → Said
slots os = record { options = os; earlier = []; newest = None }

framed_slot : (n : ℕ) → Framed 1 (n ∷ []) (slot (n ∷ []))
framed_slot n = record { low = omega arith; high = omega arith; long = refl; is = refl; size = refl }

-- one slot more, where there is room for it
gives_slot : {r : Result Content Fault} (done : List ℕ) (n : ℕ) (rest : List ℕ) → length done < 48 → (1 ≤ n) × (n ≤ 32) → ReadsTo rest (slots (done ++ n ∷ [])) r → ReadsTo (slot_bytes n ++ rest) (slots done) r
gives_slot done n rest room size g =
    gives_more (slots done) rest (framed_slot n) tt
    (passes 4 refl
    (passes 5 (lt-leb 48 (length done) room)
    (passes 6 (not_from_true _ (and_from _ _ (le-leb 1 n size.0) (le-leb n 32 size.1))) none)))
    g

-- a header's body has the length of its make
framed_header : (m : Make) (b : List ℕ) → suc (length b) ≡ header_size m → Framed (kind_of m) b (header m b)
framed_header Fit b e = record { low = omega arith; high = omega arith; long = omega arith; is = refl; size = sym e }
framed_header Bar b e = record { low = omega arith; high = omega arith; long = omega arith; is = refl; size = sym e }
framed_header Load b e = record { low = omega arith; high = omega arith; long = omega arith; is = refl; size = sym e }

length_cap : (m : Make) (z : ℤ) → header_size m ≡ 10 + length (cap_bytes m z)
length_cap Fit z = refl
length_cap Bar z = refl
length_cap Load z = refl

pub length_head : (t : Sheet) → length t.scope ≤ 8 → suc (length (head_bytes t)) ≡ header_size t.make
length_head t few =
    omega (arith, length_cap t.make t.«cap», length-append (padded t.scope) (cap_bytes t.make t.«cap»), length_padded t.scope few)

-- a cap is that of a load sheet, else 0
cap_told : (m : Make) (t : Sheet) (b : List ℕ) → Lacks m t → SFits w32 t.«cap» → drop 9 b ≡ cap_bytes m t.«cap» → cap_of m b ≡ t.«cap»
cap_told Fit t b lacks f e = sym lacks.1
cap_told Bar t b lacks f e = sym lacks.1
cap_told Load t b lacks f e = ap signed_four e ∙ four_back t.«cap» f

-- a load sheet has room where it keeps the limit
load_room : (m : Make) (n : ℕ) → is_one m + n ≤ 8 → (is_load m && leb 8 n) ≡ false
load_room Fit n h = refl
load_room Bar n h = refl
load_room Load n h = lt-leb 8 n (omega arith)

-- a sheet of which so many rows and weights are read
abbrev partly : Sheet → List (List ℕ) → List Weight → Sheet
partly t rs ws = record { make = t.make; scope = t.scope; «cap» = t.«cap»; rows = rs; weights = ws }

-- what is said inside a sheet
abbrev within : List ℕ → List Sheet → Sheet → Said
within os es t = record { options = os; earlier = es; newest = Some t }

-- what a header's body makes is the sheet with nothing read of it
fresh_back : (os : List ℕ) (t : Sheet) → GoodSheet os t → fresh t.make (head_bytes t) ≡ partly t [] []
fresh_back os t g =
    let tail = cap_bytes t.make t.«cap» in
    let cap-is = cap_told t.make t (head_bytes t) g.lacks g.fits (tail_back t.scope tail g.some g.few) in
    let scope_is = scope_back t.scope tail g.some g.few in
    ap (λ z. record { make = t.make; scope = scope_of (head_bytes t); «cap» = z; rows = []; weights = [] }) cap-is ∙ ap (λ l. record { make = t.make; scope = l; «cap» = t.«cap»; rows = []; weights = [] }) scope_is

-- a header, where there is room for its sheet
gives_header : {r : Result Content Fault} (s : Said) (t : Sheet) (rest : List ℕ) → GoodSheet s.options t → length (sheets_of s) < 64 → is_one t.make + loads_in (sheets_of s) ≤ 8 → ReadsTo rest (within s.options (sheets_of s) (partly t [] [])) r → ReadsTo (kind_of t.make ∷ head_bytes t ++ rest) s r
gives_header {r} s t rest g room load h =
    let tail = cap_bytes t.make t.«cap» in
    let sized = sizes_well t.scope tail g.some g.few in
    let scoped = ap (well_scoped (length s.options)) (scope_back t.scope tail g.some g.few) ∙ scopes_well (length s.options) t.scope g.known g.apart in
    gives_more s rest (framed_header t.make (head_bytes t) (length_head t g.few)) tt
    (passes 5 (or_from _ _ (lt-leb 64 (length (sheets_of s)) room) (load_room t.make (loads_in (sheets_of s)) load))
    (passes 7 (not_from_true _ sized)
    (passes 8 (not_from_true _ scoped) none)))
    (subst (λ u. ReadsTo rest (within s.options (sheets_of s) u) r) (sym (fresh_back s.options t g)) h)

-- a sheet with a row takes rows, and one with a weight takes weights
row_means_rows : (m : Make) (t : Sheet) → Lacks m t → 0 < length t.rows → is_load m ≡ false
row_means_rows Fit t lacks h = refl
row_means_rows Bar t lacks h = refl
row_means_rows Load t lacks h = absurd (omega (arith, ap length lacks))

weight_means_load : (m : Make) (t : Sheet) → Lacks m t → 0 < length t.weights → is_load m ≡ true
weight_means_load Fit t lacks h = absurd (omega (arith, ap length lacks.0))
weight_means_load Bar t lacks h = absurd (omega (arith, ap length lacks.0))
weight_means_load Load t lacks h = refl

framed_row : (b : List ℕ) → length b ≡ 8 → Framed 5 b (row b)
framed_row b e = record { low = omega arith; high = omega arith; long = e; is = refl; size = omega arith }

framed_weight : (b : List ℕ) → length b ≡ 4 → Framed 6 b (weight b)
framed_weight b e = record { low = omega arith; high = omega arith; long = e; is = refl; size = omega arith }

module _ {r : Result Content Fault} (os : List ℕ) (es : List Sheet) (t : Sheet) (g : GoodSheet os t) where
  -- one row more of the sheet, where there is room for all its rows
  gives_row : (done : List (List ℕ)) (x : List ℕ) (left : List (List ℕ)) → done ++ x ∷ left ≡ t.rows → rows_in es + length t.rows ≤ 4096 → (rest : List ℕ) → ReadsTo rest (within os es (partly t (done ++ x ∷ []) [])) r → ReadsTo (row_bytes x ++ rest) (within os es (partly t done [])) r
  gives_row done x left e room rest h =
      let scope = t.scope in
      let s = within os es (partly t done []) in
      let long = length_mid done x left e in
      let good = all_mid (GoodRow os scope) done x left e g.rows in
      let back = row_back os scope x good in
      let new = not_yet done x left e g.rows_apart in
      let short : length x ≤ 8 = omega (arith, length_row os scope x good, g.few) in
      let makes = row_means_rows t.make t g.lacks (omega arith) in
      gives_more s rest (framed_row (padded x) (length_padded x short)) tt
      (passes 4 (ap (λ b. not (not b)) makes)
      (passes 5 (lt-leb 4096 (rows_in (sheets_of s)) (omega (arith, rows_append es (partly t done [] ∷ []))))
      (passes 9 (not_from_true _ (fills_well os scope x (8 - length x) good))
      (passes 10 (ap (λ b. has_list b done) back ∙ new) none))))
      (subst (λ b. ReadsTo rest (within os es (partly t (done ++ b ∷ []) [])) r) (sym back) h)

  -- one weight more of the sheet
  gives_weight : (done : List Weight) (x : Weight) (left : List Weight) → done ++ x ∷ left ≡ t.weights → (rest : List ℕ) → ReadsTo rest (within os es (partly t t.rows (done ++ x ∷ []))) r → ReadsTo (weight_bytes x ++ rest) (within os es (partly t t.rows done)) r
  gives_weight done x left e rest h =
      let scope = t.scope in
      let b = x.position ∷ x.option ∷ two_bytes x.amount in
      let long = length_mid done x left e in
      let good = all_mid (GoodWeight os scope) done x left e g.weights in
      let back = weight_back os scope x good in
      let new = not_yet (places done) (place x) (places left) (sym (places_append done (x ∷ left)) ∙ ap places e) g.weights_apart in
      let makes = weight_means_load t.make t g.lacks (omega arith) in
      gives_more (within os es (partly t t.rows done)) rest (framed_weight b refl) tt
      (passes 4 (not_from_true _ makes)
      (passes 11 (not_from_true _ (ap (well_weighed os scope) back ∙ weighs_well os scope x good))
      (passes 12 new none)))
      (subst (λ v. ReadsTo rest (within os es (partly t t.rows (done ++ v ∷ []))) r) (sym back) h)

  -- all rows and weights of the sheet
  gives_entries : rows_in es + length t.rows ≤ 4096 → (rest : List ℕ) → ReadsTo rest (within os es t) r → ReadsTo (entry_bytes t ++ rest) (within os es (partly t [] [])) r
  gives_entries room rest h =
      let ws = flat_map weight_bytes t.weights in
      let weighed = one_by_one weight_bytes (λ done more. ReadsTo more (within os es (partly t t.rows done)) r) t.weights gives_weight rest h in
      let rowed = one_by_one row_bytes (λ done more. ReadsTo more (within os es (partly t done [])) r) t.rows (λ done x left e. gives_row done x left e room) (ws ++ rest) weighed in
      subst (λ l. ReadsTo l (within os es (partly t [] [])) r) (sym (append_assoc (flat_map row_bytes t.rows) ws rest)) rowed

-- Wherever the slots and these sheets were said, the bytes left give the answer.
abbrev Told : List ℕ → Result Content Fault → List Sheet → List ℕ → Type 0
Told os r ts rest = (s : Said) → s.options ≡ os → sheets_of s ≡ ts → ReadsTo rest s r

module _ (w : Content) (ok : Sound w) where
  -- one sheet more: its header, its rows and its weights
  gives_sheet : (done : List Sheet) (t : Sheet) (left : List Sheet) → done ++ t ∷ left ≡ w.sheets → (rest : List ℕ) → Told w.options (Ok w) (done ++ t ∷ []) rest → Told w.options (Ok w) done (sheet_bytes t ++ rest)
  gives_sheet done t left e rest h s so st =
      let good = subst (λ os. GoodSheet os t) (sym so) (all_mid (GoodSheet w.options) done t left e ok.good) in
      let long = length_mid done t left e in
      let rows = sym (ap rows_in e) ∙ rows_append done (t ∷ left) in
      let loads = sym (ap loads_in e) ∙ loads_append done (t ∷ left) in
      let rows-now = ap rows_in st in
      let loads-now = ap loads_in st in
      let long-now = ap length st in
      let entries = gives_entries s.options (sheets_of s) t good (omega (arith, ok.rows)) rest (h (within s.options (sheets_of s) t) so (ap (λ l. l ++ t ∷ []) st)) in
      let whole = gives_header s t (entry_bytes t ++ rest) good (omega (arith, ok.sheets)) (omega (arith, ok.loads)) entries in
      subst (λ l. ReadsTo l s (Ok w)) (sym (append_assoc (kind_of t.make ∷ head_bytes t) (entry_bytes t) rest)) whole

  -- the end, once all is said
  gives_last : Told w.options (Ok w) w.sheets (7 ∷ [])
  gives_last s so st =
      let said : content_of s ≡ w = ap (λ o. record { options = o; sheets = sheets_of s }) so ∙ ap (λ l. record { options = w.options; sheets = l }) st in
      let some : length s.options ≡ 0 → ⊥ = λ z. omega (arith, ok.some, ap length so) in
      subst (λ c. ReadsTo (7 ∷ []) s (Ok c)) said (gives_end s (passes 13 (ne_eqb _ 0 some) (passes 14 refl none)))

  gives_sheets : ReadsTo (flat_map sheet_bytes w.sheets ++ 7 ∷ []) (slots w.options) (Ok w)
  gives_sheets = one_by_one sheet_bytes (Told w.options (Ok w)) w.sheets gives_sheet (7 ∷ []) gives_last (slots w.options) refl refl

  -- one slot more of the list
  gives_options : (done : List ℕ) (n : ℕ) (left : List ℕ) → done ++ n ∷ left ≡ w.options → (rest : List ℕ) → ReadsTo rest (slots (done ++ n ∷ [])) (Ok w) → ReadsTo (slot_bytes n ++ rest) (slots done) (Ok w)
  gives_options done n left e rest h =
      gives_slot done n rest (omega (arith, length_mid done n left e, ok.slots)) (all_mid (λ m. (1 ≤ m) × (m ≤ 32)) done n left e ok.sizes) h

  gives_all : ReadsTo (written w) nothing (Ok w)
  gives_all =
      let ts = flat_map sheet_bytes w.sheets in
      subst (λ l. ReadsTo l nothing (Ok w)) (sym (append_assoc (flat_map slot_bytes w.options) ts (7 ∷ []))) (one_by_one slot_bytes (λ done more. ReadsTo more (slots done) (Ok w)) w.options gives_options (ts ++ 7 ∷ []) gives_sheets)

-- The file of a sound list is accepted, and says just that list.
pub complete : (w : Content) → Sound w → content (written w) ≡ Ok w
complete w ok = (gives_all w ok).says (written w) 0 (suc (length (written w))) refl (omega arith)

-- No two sound lists have one file.
pub only_one : (v w : Content) → Sound v → Sound w → written v ≡ written w → v ≡ w
only_one v w p q e = let a = complete v p in let b = complete w q in let c = ap content e in cc
