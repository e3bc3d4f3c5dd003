-- That accepted bytes are the writing of a sound list of slots and sheets. Assumes nothing.
use Rattle.std.proofs.Common.{◌≡◌, ℕ, suc, ◌+◌, ◌≤◌, Bool, true, false, cond, ◌&&◌, eqb, leb, List, [], ◌∷◌, ◌++◌, length, get_or, take, drop, Some, None, Ok, Option, sym, refl, ap, ◌∙◌, subst, arith, take-add}
use Rattle.std.specs.List.{flat_map, AllByRecursion}
use Rattle.std.proofs.ByRecursion.{All-push}
use Rattle.std.proofs.lemmas.List.{append_assoc, append-nil, flat_map_more, take_more, take_all, length_push, length-take-le, length-drop, nil_from_length}
use Rattle.std.proofs.lemmas.Bool.{and_parts, or_parts, not-true, not-false, false≢true, leb-true, leb-false, ltb-false, eqb-true, eqb-false}
use Rattle.catalogue.specs.declared.make.Make.{Make}
use Rattle.catalogue.specs.declared.make.Make.TheVariants.{Fit, Bar, Load}
use Rattle.catalogue.specs.Content.{Weight, Sheet, Content, rows_in, is_one, loads_in, places, Lacks, GoodSheet, Sound}
use Rattle.catalogue.specs.Writing.{slot_bytes, row_bytes, weight_bytes, kind_of, head_bytes, entry_bytes, sheet_bytes, written}
use Rattle.catalogue.specs.Records.{Rec, slot, header, row, weight, end, body_len, named, kind_at, record_at, header_size, size_of}
use Rattle.catalogue.specs.Checks.{Said, nothing, listed, sheets_of, well_sized, well_scoped, scope_of, weight_of, has_list, well_weighed, is_load, fresh, checks, after}
use Rattle.catalogue.specs.Verdict.{behind, content}
use Rattle.catalogue.specs.Law.{Octets, checks_at, Passes, Inner, Passed, start, step}
use Rattle.catalogue.proofs.Run.{ended, Read, read, size_named, first_passed, rest_passed}
use Rattle.catalogue.proofs.Bodies.{octets_cons, octets_drop, octets_take, weight_written, place_back, row_written, header_long, header_written}
use Rattle.catalogue.proofs.Good.{sheet_fresh, with_row, sheet_row, with_weight, sheet_weight}

-- the bytes of a record
abbrev bytes_of : Rec → List ℕ
bytes_of (slot b) = 1 ∷ b
bytes_of (header m b) = kind_of m ∷ b
bytes_of (row b) = 5 ∷ b
bytes_of (weight b) = 6 ∷ b
bytes_of end = 7 ∷ []

-- A record that was read: its bytes lie behind the place, whole.
record ReadWhole (bs : List ℕ) (at : ℕ) (x : Rec) : Type 0 where
  front : take (at + size_of x) bs ≡ take at bs ++ bytes_of x
  long : length (bytes_of x) ≡ size_of x
  octets : Octets (bytes_of x)

-- a body under its kind has the kind's byte before it
module _ (k : ℕ) (x : List ℕ) (low : 1 ≤ k) (high : k ≤ 7) where
  under : (a b c d e f : Bool) → eqb k 1 ≡ a → eqb k 2 ≡ b → eqb k 3 ≡ c → eqb k 4 ≡ d → eqb k 5 ≡ e → eqb k 6 ≡ f → length x ≡ cond a 1 (cond b 9 (cond c 9 (cond d 13 (cond e 8 (cond f 4 0))))) → bytes_of (cond a (slot x) (cond b (header Fit x) (cond c (header Bar x) (cond d (header Load x) (cond e (row x) (cond f (weight x) end)))))) ≡ k ∷ x
  under true b c d e f p q r s t u long = ap (λ i. i ∷ x) (sym (eqb-true k 1 p))
  under false true c d e f p q r s t u long = ap (λ i. i ∷ x) (sym (eqb-true k 2 q))
  under false false true d e f p q r s t u long = ap (λ i. i ∷ x) (sym (eqb-true k 3 r))
  under false false false true e f p q r s t u long = ap (λ i. i ∷ x) (sym (eqb-true k 4 s))
  under false false false false true f p q r s t u long = ap (λ i. i ∷ x) (sym (eqb-true k 5 t))
  under false false false false false true p q r s t u long = ap (λ i. i ∷ x) (sym (eqb-true k 6 u))
  under false false false false false false p q r s t u long =
      let seven : k ≡ 7 = omega (arith, eqb-false) in
      let nil = nil_from_length x long in
      cc

  bytes_named : length x ≡ body_len k → bytes_of (named k x) ≡ k ∷ x
  bytes_named long = under (eqb k 1) (eqb k 2) (eqb k 3) (eqb k 4) (eqb k 5) (eqb k 6) refl refl refl refl refl refl long

read_whole : (bs : List ℕ) (at : ℕ) → Octets bs → Read bs at → ReadWhole bs at (record_at bs at)
read_whole bs at o r =
    let k = kind_at bs at in
    let n = body_len k in
    let b = take n (drop (at + 1) bs) in
    let size = size_named k b in
    let kind = and_parts (leb 1 k) (leb k 7) r.kind in
    let whole : at + 1 + n ≤ length bs = omega (arith, r.whole) in
    let long : length b ≡ n = length-take-le n (drop (at + 1) bs) (omega (arith, length-drop (at + 1) bs)) in
    let is : bytes_of (record_at bs at) ≡ k ∷ b = bytes_named k b (leb-true 1 k kind.0) (leb-true k 7 kind.1) long in
    let to : at + size_of (record_at bs at) ≡ at + 1 + n = omega arith in
    record {
      front = ap (λ i. take i bs) to ∙ take-add (at + 1) n bs ∙ ap (λ l. l ++ b) (take_more bs at 0 (omega arith)) ∙ append_assoc (take at bs) (k ∷ []) b ∙ ap (λ l. take at bs ++ l) (sym is);
      long = ap length is ∙ omega arith;
      octets = subst Octets (sym is) (octets_cons k b (o at) (octets_take n (drop (at + 1) bs) (octets_drop (at + 1) bs o)));
    }

-- What the records up to a place have said is written there, and is sound but for slots that may still come.
record Seen (bs : List ℕ) (at : ℕ) (s : Said) : Type 0 where
  front : take at bs ≡ flat_map slot_bytes s.options ++ flat_map sheet_bytes (sheets_of s)
  slots : length s.options ≤ 48
  sizes : AllByRecursion (λ n. (1 ≤ n) × (n ≤ 32)) s.options
  sheets : length (sheets_of s) ≤ 64
  loads : loads_in (sheets_of s) ≤ 8
  rows : rows_in (sheets_of s) ≤ 4096
  good : AllByRecursion (GoodSheet s.options) (sheets_of s)
  first : s.newest ≡ None → s.earlier ≡ []

seen_none : (bs : List ℕ) → Seen bs 0 nothing
seen_none bs =
    record { front = refl; slots = omega arith; sizes = tt; sheets = omega arith; loads = omega arith; rows = omega arith; good = tt; first = λ e. refl }

abbrev saying : List ℕ → List Sheet → Option Sheet → Said
saying os es o = record { options = os; earlier = es; newest = o }

-- a list with one more sheet
rows_push : (ts : List Sheet) (t : Sheet) → rows_in (ts ++ t ∷ []) ≡ rows_in ts + length t.rows
rows_push [] t = omega arith
rows_push (u ∷ ts) t = omega (arith, rows_push ts t)

loads_push : (ts : List Sheet) (t : Sheet) → loads_in (ts ++ t ∷ []) ≡ loads_in ts + is_one t.make
loads_push [] t = omega arith
loads_push (u ∷ ts) t = omega (arith, loads_push ts t)

all_split : {X : Type 0} (P : X → Type 0) (xs : List X) (y : X) → AllByRecursion P (xs ++ y ∷ []) → AllByRecursion P xs × P y
all_split P [] y a = (tt, a.0)
all_split P (x ∷ xs) y a = let r = all_split P xs y a.1 in ((a.0, r.0), r.1)

-- a sheet's bytes, with more behind its entries
sheet_more : (t : Sheet) (x y : List ℕ) → entry_bytes t ++ x ≡ y → sheet_bytes t ++ x ≡ (kind_of t.make ∷ head_bytes t) ++ y
sheet_more t x y e =
    append_assoc (kind_of t.make ∷ head_bytes t) (entry_bytes t) x ∙ ap (λ l. (kind_of t.make ∷ head_bytes t) ++ l) e

row_more : (t : Sheet) (r : List ℕ) → t.weights ≡ [] → sheet_bytes t ++ row_bytes r ≡ sheet_bytes (with_row t r)
row_more t r e =
    let rs = flat_map row_bytes t.rows in
    let no_weights : flat_map weight_bytes t.weights ≡ [] = ap (flat_map weight_bytes) e in
    sheet_more t (row_bytes r) (entry_bytes (with_row t r)) (ap (λ l. (rs ++ l) ++ row_bytes r) no_weights ∙ ap (λ l. l ++ row_bytes r) (append-nil rs) ∙ flat_map_more row_bytes [] t.rows r ∙ sym (append-nil _) ∙ ap (λ l. flat_map row_bytes (t.rows ++ r ∷ []) ++ l) (sym no_weights))

weight_more : (t : Sheet) (w : Weight) → sheet_bytes t ++ weight_bytes w ≡ sheet_bytes (with_weight t w)
weight_more t w = sheet_more t (weight_bytes w) (entry_bytes (with_weight t w)) (flat_map_more weight_bytes (flat_map row_bytes t.rows) t.weights w)

no_weights_in : (m : Make) (t : Sheet) → is_load m ≡ false → Lacks m t → t.weights ≡ []
no_weights_in Fit t e l = l.0
no_weights_in Bar t e l = l.0
no_weights_in Load t e l = absurd (false≢true (sym e))

-- where a header passes, there is room for a sheet of its make
loads_room : (m : Make) (n : ℕ) → (is_load m && leb 8 n) ≡ false → n ≤ 8 → n + is_one m ≤ 8
loads_room Fit n e h = omega arith
loads_room Bar n e h = omega arith
loads_room Load n e h = omega (arith, leb-false 8 n e)

one_byte : (b : List ℕ) → length b ≡ 1 → b ≡ get_or b 0 0 ∷ []
one_byte [] e = absurd (omega arith)
one_byte (x ∷ []) e = refl
one_byte (x ∷ y ∷ ys) e = absurd (omega arith)

some_not_none : {X Y : Type 0} {x : X} → Some x ≡ None → Y
some_not_none e = let z : ◌≡◌ {A = ℕ} 0 1 = cc in absurd (omega arith)

module _ (bs : List ℕ) (at : ℕ) (os : List ℕ) (es : List Sheet) where
  -- One more slot, where there is no sheet yet.
  seen_slot : (room : ℕ) (o : Option Sheet) (b : List ℕ) → ReadWhole bs at (slot b) → Passes (checks room (saying os es o) (slot b)) → Seen bs at (saying os es o) → Seen bs (at + 2) (after (saying os es o) (slot b))
  seen_slot room (Some t) b l p z = absurd (false≢true (sym (first_passed p)))
  seen_slot room None b l p z =
      let n = get_or b 0 0 in
      let q = rest_passed p in
      let few = leb-false 48 (length os) (first_passed q) in
      let size = and_parts (leb 1 n) (leb n 32) (not-false _ (first_passed (rest_passed q))) in
      let empty : es ++ [] ≡ [] = ap (λ l. l ++ []) (z.first refl) in
      let old : take at bs ≡ flat_map slot_bytes os = z.front ∙ ap (λ l. flat_map slot_bytes os ++ flat_map sheet_bytes l) empty ∙ append-nil (flat_map slot_bytes os) in
      let one = one_byte b (omega (arith, l.long)) in
      record {
        front = l.front ∙ ap (λ x. take at bs ++ 1 ∷ x) one ∙ ap (λ x. x ++ slot_bytes n) old ∙ flat_map_more slot_bytes [] os n ∙ sym (append-nil _) ∙ ap (λ l. flat_map slot_bytes (os ++ n ∷ []) ++ flat_map sheet_bytes l) (sym empty);
        slots = omega (arith, length_push os n);
        sizes = All-push (λ m. (1 ≤ m) × (m ≤ 32)) os n z.sizes (leb-true 1 n size.0, leb-true n 32 size.1);
        sheets = z.sheets;
        loads = z.loads;
        rows = z.rows;
        good = subst (AllByRecursion (GoodSheet (os ++ n ∷ []))) (sym empty) tt;
        first = z.first;
      }

  -- One more sheet, of any make.
  seen_header : (room : ℕ) (o : Option Sheet) (m : Make) (b : List ℕ) → ReadWhole bs at (header m b) → Passes (checks room (saying os es o) (header m b)) → Seen bs at (saying os es o) → Seen bs (at + header_size m) (after (saying os es o) (header m b))
  seen_header room o m b l p z =
      let ts = es ++ listed o in
      let new = fresh m b in
      let q = rest_passed p in
      let limits = or_parts (leb 64 (length ts)) (is_load m && leb 8 (loads_in ts)) (first_passed p) in
      let few = leb-false 64 (length ts) limits.0 in
      let sized : well_sized b ≡ true = not-false _ (first_passed q) in
      let scoped : well_scoped (length os) (scope_of b) ≡ true = not-false _ (first_passed (rest_passed q)) in
      let long : length b + 1 ≡ header_size m = omega (arith, l.long) in
      let octets : Octets b = λ i. l.octets (suc i) in
      record {
        front = l.front ∙ ap (λ x. take at bs ++ kind_of m ∷ x) (sym (header_written m b long octets sized)) ∙ ap (λ x. take at bs ++ x) (sym (append-nil (kind_of m ∷ head_bytes new))) ∙ ap (λ x. x ++ sheet_bytes new) z.front ∙ flat_map_more sheet_bytes (flat_map slot_bytes os) ts new;
        slots = z.slots;
        sizes = z.sizes;
        sheets = omega (arith, length_push ts new);
        loads = subst (λ n. n ≤ 8) (sym (loads_push ts new)) (loads_room m (loads_in ts) limits.1 z.loads);
        rows = omega (arith, rows_push ts new, z.rows);
        good = All-push (GoodSheet os) ts new z.good (sheet_fresh os m b (header_long m (length b) long) octets sized scoped);
        first = some_not_none;
      }

  -- the newest sheet is good, and may be followed by one that has more
  module _ (t : Sheet) (z : Seen bs at (saying os es (Some t))) where
    newest_good : GoodSheet os t
    newest_good = (all_split (GoodSheet os) es t z.good).1

    seen_more : (n : ℕ) (u : Sheet) (x : List ℕ) → take (at + n) bs ≡ take at bs ++ x → sheet_bytes t ++ x ≡ sheet_bytes u → t.make ≡ u.make → rows_in es + length u.rows ≤ 4096 → GoodSheet os u → Seen bs (at + n) (saying os es (Some u))
    seen_more n u x grown is same few good =
        let slots = flat_map slot_bytes os in
        record {
          front = grown ∙ ap (λ l. l ++ x) (z.front ∙ sym (flat_map_more sheet_bytes slots es t)) ∙ append_assoc (slots ++ flat_map sheet_bytes es) (sheet_bytes t) x ∙ ap (λ l. (slots ++ flat_map sheet_bytes es) ++ l) is ∙ flat_map_more sheet_bytes slots es u;
          slots = z.slots;
          sizes = z.sizes;
          sheets = omega (arith, length_push es t, length_push es u, z.sheets);
          loads = omega (arith, loads_push es t, loads_push es u, ap is_one same, z.loads);
          rows = omega (arith, rows_push es u);
          good = All-push (GoodSheet os) es u (all_split (GoodSheet os) es t z.good).0 good;
          first = some_not_none;
        }

  -- One more row in the newest sheet.
  seen_row : (room : ℕ) (o : Option Sheet) (b : List ℕ) → ReadWhole bs at (row b) → Passes (checks room (saying os es o) (row b)) → Seen bs at (saying os es o) → Seen bs (at + 9) (after (saying os es o) (row b))
  seen_row room None b l p z = absurd (false≢true (sym (first_passed p)))
  seen_row room (Some t) b l p z =
      let r = take (length t.scope) b in
      let g = newest_good t z in
      let q = rest_passed p in
      let make = not-true (is_load t.make) (not-false _ (first_passed p)) in
      let few = leb-false 4096 (rows_in (es ++ t ∷ [])) (first_passed q) in
      let fills = not-false _ (first_passed (rest_passed q)) in
      let new = first_passed (rest_passed (rest_passed q)) in
      let back = row_written os t.scope b (omega (arith, l.long)) g.few fills in
      seen_more t z 9 (with_row t r) (row_bytes r)
      (l.front ∙ ap (λ x. take at bs ++ x) (sym back))
      (row_more t r (no_weights_in t.make t make g.lacks))
      refl
      (omega (arith, rows_push es t, length_push t.rows r))
      (sheet_row os t b make fills new g)

  -- One more weight in the newest sheet.
  seen_weight : (room : ℕ) (o : Option Sheet) (b : List ℕ) → ReadWhole bs at (weight b) → Passes (checks room (saying os es o) (weight b)) → Seen bs at (saying os es o) → Seen bs (at + 5) (after (saying os es o) (weight b))
  seen_weight room None b l p z = absurd (false≢true (sym (first_passed p)))
  seen_weight room (Some t) b l p z =
      let w = weight_of b in
      let q = rest_passed p in
      let make : is_load t.make ≡ true = not-false _ (first_passed p) in
      let weighs : well_weighed os t.scope w ≡ true = not-false _ (first_passed q) in
      let four : length b ≡ 4 = omega (arith, l.long) in
      let new = subst (λ x. has_list x (places t.weights) ≡ false) (place_back b four) (first_passed (rest_passed q)) in
      let back = weight_written b four (λ i. l.octets (suc i)) in
      seen_more t z 5 (with_weight t w) (weight_bytes w)
      (l.front ∙ ap (λ x. take at bs ++ x) (sym back))
      (weight_more t w)
      refl
      (omega (arith, rows_push es t, z.rows))
      (sheet_weight os t w make weighs new (newest_good t z))

seen_step : (bs : List ℕ) (at room : ℕ) (s : Said) (x : Rec) → ReadWhole bs at x → Passes (checks room s x) → Inner x → Seen bs at s → Seen bs (at + size_of x) (after s x)
seen_step bs at room s (slot b) l p i z = seen_slot bs at s.options s.earlier room s.newest b l p z
seen_step bs at room s (header m b) l p i z = seen_header bs at s.options s.earlier room s.newest m b l p z
seen_step bs at room s (row b) l p i z = seen_row bs at s.options s.earlier room s.newest b l p z
seen_step bs at room s (weight b) l p i z = seen_weight bs at s.options s.earlier room s.newest b l p z
seen_step bs at room s end l p i z = absurd i

-- the checks behind those of reading
checked : (bs : List ℕ) (at : ℕ) (s : Said) → Passes (checks_at bs at s) → Passes (checks (behind bs at) s (record_at bs at))
checked bs at s p = rest_passed (rest_passed (rest_passed p))

-- What is said at each place that a run passes is seen there.
passed_seen : (bs : List ℕ) → Octets bs → {at : ℕ} {s : Said} → Passed bs at s → Seen bs at s
passed_seen bs o start = seen_none bs
passed_seen bs o (step {at} {s} before passes i) =
    seen_step bs at (behind bs at) s (record_at bs at) (read_whole bs at o (read bs at s passes)) (checked bs at s passes) i (passed_seen bs o before)

-- Accepted bytes are the writing of a sound list.
pub sound : (bs : List ℕ) → Octets bs → (w : Content) → content bs ≡ Ok w → Sound w × (written w ≡ bs)
sound bs o w e =
    let n = ended bs w e in
    let at = n.from in
    let s = n.said in
    let z = passed_seen bs o n.before in
    let l = subst (ReadWhole bs at) n.ends (read_whole bs at o (read bs at s n.passes)) in
    let p = subst (λ x. Passes (checks (behind bs at) s x)) n.ends (checked bs at s n.passes) in
    let some = eqb-false (length s.options) 0 (first_passed p) in
    let last = ltb-false 0 (behind bs at) (first_passed (rest_passed p)) in
    subst (λ v. Sound v × (written v ≡ bs)) n.says (
      record { some = omega arith; slots = z.slots; sizes = z.sizes; sheets = z.sheets; loads = z.loads; rows = z.rows; good = z.good },
      ap (λ x. x ++ 7 ∷ []) (sym z.front) ∙ sym l.front ∙ take_all (at + 1) bs (omega arith),
    )
