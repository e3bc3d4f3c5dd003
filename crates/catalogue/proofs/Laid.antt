-- Where the slots and the sheets of a written list lie in its bytes. Assumes nothing.
use Rattle.std.proofs.Common.{◌≡◌, ℕ, zero, suc, ◌+◌, ◌-◌, ◌*◌, ◌/◌, ◌%◌, ◌<◌, ◌≤◌, true, false, List, [], ◌∷◌, ◌++◌, length, get_or, take, drop, replicate, ℤ, sym, refl, ap, ◌∙◌, subst, append_assoc, append-nil, add-zero, arith, w32, SFits, to_z, of_z}
use Rattle.std.specs.List.{flat_map, AllByRecursion}
use Rattle.std.proofs.ByRecursion.{All-weaker}
use Rattle.std.proofs.lemmas.List.Prefix.{at_reads}
use Rattle.std.proofs.lemmas.List.{get_or-drop, length-append, length-drop, drop-drop, drop_at, take_at}
use Rattle.std.proofs.lemmas.Int.{to_z-of_z}
use Rattle.catalogue.specs.declared.make.Make.{Make}
use Rattle.catalogue.specs.declared.make.Make.TheVariants.{Fit, Bar, Load}
use Rattle.catalogue.specs.Content.{Weight, Sheet, Content, GoodRow, GoodWeight, GoodSheet, Lacks, Sound}
use Rattle.catalogue.specs.Writing.{padded, four_bytes, slot_bytes, row_bytes, weight_bytes, kind_of, cap_bytes, head_bytes, entry_bytes, sheet_bytes, written}
use Rattle.catalogue.specs.Records.{body_len, kind_at}
use Rattle.catalogue.specs.Checks.{signed_four, scope_of, cap_of}
use Rattle.catalogue.specs.Places.{past, is_entry, Entries, none, more, SheetLies, Ahead, end, next}
use Rattle.catalogue.proofs.Passing.{length_padded, length_row}

-- the slots
pub length_slots : (os : List ℕ) → length (flat_map slot_bytes os) ≡ 2 * length os
length_slots [] = refl
length_slots (n ∷ os) = omega (arith, length_slots os)

slot_read : (os rest : List ℕ) (i : ℕ) → i < length os → get_or (flat_map slot_bytes os ++ rest) (2 * i + 1) 0 ≡ get_or os i 0
slot_read [] rest i h = absurd (omega arith)
slot_read (n ∷ os) rest zero h = refl
slot_read (n ∷ os) rest (suc i) h =
    let place : 2 * suc i + 1 ≡ suc (suc (2 * i + 1)) = omega arith in
    ap (λ k. get_or (1 ∷ n ∷ flat_map slot_bytes os ++ rest) k 0) place ∙ slot_read os rest i (omega arith)

-- what stands at a place, and behind it
inside : (bs : List ℕ) (at : ℕ) (xs : List ℕ) → drop at bs ≡ xs → 0 < length xs → at + length xs ≡ length bs
inside bs at xs e h = omega (arith, ap length e, length-drop at bs)

drop_behind : (bs : List ℕ) (at : ℕ) (xs ys : List ℕ) → drop at bs ≡ xs ++ ys → drop (at + length xs) bs ≡ ys
drop_behind bs at xs ys e = sym (drop-drop (length xs) at bs) ∙ ap (drop (length xs)) e ∙ drop_at xs ys (length xs) refl

first : (bs : List ℕ) (at : ℕ) (xs ys : List ℕ) → drop at bs ≡ xs ++ ys → 0 < length xs → kind_at bs at ≡ get_or xs 0 0
first bs at xs ys e h = sym (ap (λ i. get_or bs i 0) (add-zero at)) ∙ at_reads 0 bs xs at ys e 0 h

-- the bytes of a row or a weight
record EntryBytes (xs : List ℕ) : Type 0 where
  kind : is_entry (get_or xs 0 0) ≡ true
  long : length xs ≡ 1 + body_len (get_or xs 0 0)

-- entries lie one behind another
run : {X : Type 0} (f : X → List ℕ) (bs : List ℕ) (to : ℕ) (xs : List X) (at : ℕ) (rest : List ℕ) → AllByRecursion (λ x. EntryBytes (f x)) xs → drop at bs ≡ flat_map f xs ++ rest → Entries bs (at + length (flat_map f xs)) to → Entries bs at to
run f bs to [] at rest g e r = subst (λ n. Entries bs n to) (add-zero at) r
run f bs to (x ∷ xs) at rest g e r =
    let long = g.0.long in
    let whole : drop at bs ≡ f x ++ (flat_map f xs ++ rest) = e ∙ append_assoc (f x) (flat_map f xs) rest in
    let kind : kind_at bs at ≡ get_or (f x) 0 0 = first bs at (f x) (flat_map f xs ++ rest) whole (omega arith) in
    let size : past bs at ≡ at + length (f x) = ap (λ k. at + (1 + body_len k)) kind ∙ ap (λ n. at + n) (sym long) in
    let sum : at + length (f x ++ flat_map f xs) ≡ at + length (f x) + length (flat_map f xs) = omega (arith, length-append (f x) (flat_map f xs)) in
    let tail : Entries bs (at + length (f x)) to = run f bs to xs (at + length (f x)) rest g.1 (drop_behind bs at (f x) (flat_map f xs ++ rest) whole) (subst (λ n. Entries bs n to) sum r) in
    let here : at < length bs = omega (arith, inside bs at (f x ++ (flat_map f xs ++ rest)) whole (omega (arith, length-append (f x) (flat_map f xs ++ rest))), length-append (f x) (flat_map f xs ++ rest)) in
    more here (ap is_entry kind ∙ g.0.kind) (subst (λ n. Entries bs n to) (sym size) tail)

row_entry : (xs : List ℕ) → length xs ≤ 8 → EntryBytes (row_bytes xs)
row_entry xs h = record { kind = refl; long = omega (arith, length_padded xs h) }

weight_entry : (w : Weight) → EntryBytes (weight_bytes w)
weight_entry w = record { kind = refl; long = refl }

-- a header's bytes
length_rest : (m : Make) (xs : List ℕ) (z : ℤ) → length xs ≤ 8 → length (padded xs ++ cap_bytes m z) ≡ body_len (kind_of m) - 1
length_rest Fit xs z h = omega (arith, length-append (padded xs) [], length_padded xs h)
length_rest Bar xs z h = omega (arith, length-append (padded xs) [], length_padded xs h)
length_rest Load xs z h = omega (arith, length-append (padded xs) (four_bytes z), length_padded xs h)

four_front : (z : ℤ) (rest : List ℕ) → SFits w32 z → signed_four (four_bytes z ++ rest) ≡ z
four_front z rest h =
    let n = of_z w32 z in
    let sum : n % 256 + n / 256 % 256 * 256 + n / 65536 % 256 * 65536 + n / 16777216 * 16777216 ≡ n = omega arith in
    ap (to_z w32) sum ∙ to_z-of_z w32 z h

cap_front : (m : Make) (t : Sheet) (rest : List ℕ) → Lacks m t → SFits w32 t.«cap» → length t.scope ≤ 8 → cap_of m (length t.scope ∷ padded t.scope ++ (cap_bytes m t.«cap» ++ rest)) ≡ t.«cap»
cap_front Fit t rest g f h = sym g.1
cap_front Bar t rest g f h = sym g.1
cap_front Load t rest g f h =
    ap signed_four (drop_at (padded t.scope) (four_bytes t.«cap» ++ rest) 8 (length_padded t.scope h)) ∙ four_front t.«cap» rest f

scope_front : (xs rest : List ℕ) → scope_of (length xs ∷ padded xs ++ rest) ≡ xs
scope_front xs rest =
    ap (take (length xs)) (append_assoc xs (replicate (8 - length xs) 255) rest) ∙ take_at xs (replicate (8 - length xs) 255 ++ rest) (length xs) refl

head_size : (t : Sheet) → length t.scope ≤ 8 → length (kind_of t.make ∷ head_bytes t) ≡ 1 + body_len (kind_of t.make)
head_size t h = by t.make
  where
    by : (m : Make) → length (kind_of m ∷ length t.scope ∷ padded t.scope ++ cap_bytes m t.«cap») ≡ 1 + body_len (kind_of m)
    by Fit = omega (arith, length_rest Fit t.scope t.«cap» h)
    by Bar = omega (arith, length_rest Bar t.scope t.«cap» h)
    by Load = omega (arith, length_rest Load t.scope t.«cap» h)

-- a sheet that is written at a place lies there, where what follows it is no entry
module _ (options bs : List ℕ) (at : ℕ) (t : Sheet) (rest : List ℕ) (good : GoodSheet options t) (is : drop at bs ≡ sheet_bytes t ++ rest) (some : 0 < length rest) (other : is_entry (get_or rest 0 0) ≡ false) where
  abbrev head : List ℕ
  head = kind_of t.make ∷ head_bytes t

  split : drop at bs ≡ head ++ (entry_bytes t ++ rest)
  split = is ∙ append_assoc (kind_of t.make ∷ head_bytes t) (entry_bytes t) rest

  kind : kind_at bs at ≡ kind_of t.make
  kind = first bs at head (entry_bytes t ++ rest) split (omega (arith, head_size t good.few))

  past_is : past bs at ≡ at + length head
  past_is = ap (λ k. at + (1 + body_len k)) kind ∙ ap (λ n. at + n) (sym (head_size t good.few))

  body : drop (at + 1) bs ≡ length t.scope ∷ padded t.scope ++ (cap_bytes t.make t.«cap» ++ (entry_bytes t ++ rest))
  body = sym (drop-drop 1 at bs) ∙ ap (drop 1) split ∙ ap (λ xs. length t.scope ∷ xs) (append_assoc (padded t.scope) (cap_bytes t.make t.«cap») (entry_bytes t ++ rest))

  from : drop (past bs at) bs ≡ entry_bytes t ++ rest
  from = ap (λ n. drop n bs) past_is ∙ drop_behind bs at head (entry_bytes t ++ rest) split

  ends : at + length (sheet_bytes t) ≡ past bs at + length (entry_bytes t)
  ends = omega (arith, past_is, length-append (kind_of t.make ∷ head_bytes t) (entry_bytes t))

  ends_inside : at + length (sheet_bytes t) + length rest ≡ length bs
  ends_inside = omega (arith, inside bs at (sheet_bytes t ++ rest) is (omega (arith, length-append (sheet_bytes t) rest)), length-append (sheet_bytes t) rest)

  sheet_end : Entries bs (at + length (sheet_bytes t)) (at + length (sheet_bytes t))
  sheet_end = none (omega (arith, ends_inside)) (ap is_entry (first bs (at + length (sheet_bytes t)) rest [] (drop_behind bs at (sheet_bytes t) rest is ∙ sym (append-nil rest)) some) ∙ other)

  run_weights : Entries bs (past bs at + length (flat_map row_bytes t.rows)) (at + length (sheet_bytes t))
  run_weights =
      let rows = flat_map row_bytes t.rows in
      let weights = flat_map weight_bytes t.weights in
      let sum : at + length (sheet_bytes t) ≡ past bs at + length rows + length weights = omega (arith, ends, length-append rows weights) in
      run weight_bytes bs (at + length (sheet_bytes t)) t.weights (past bs at + length rows) rest
      (All-weaker (GoodWeight options t.scope) (λ w. EntryBytes (weight_bytes w)) (λ w _. weight_entry w) t.weights good.weights)
      (drop_behind bs (past bs at) rows (weights ++ rest) (from ∙ append_assoc rows weights rest))
      (subst (λ n. Entries bs n (at + length (sheet_bytes t))) sum sheet_end)

  run_rows : Entries bs (past bs at) (at + length (sheet_bytes t))
  run_rows =
      run row_bytes bs (at + length (sheet_bytes t)) t.rows (past bs at) (flat_map weight_bytes t.weights ++ rest)
      (All-weaker (GoodRow options t.scope) (λ r. EntryBytes (row_bytes r)) (λ r g. row_entry r (omega (arith, length_row options t.scope r g, good.few))) t.rows good.rows)
      (from ∙ append_assoc (flat_map row_bytes t.rows) (flat_map weight_bytes t.weights) rest)
      run_weights

  count : kind_at bs (at + 1) ≡ length t.scope
  count = sym (ap (λ i. get_or bs i 0) (add-zero (at + 1))) ∙ sym (get_or-drop (at + 1) bs 0 0) ∙ ap (λ xs. get_or xs 0 0) body

  pub lies : SheetLies bs at t (at + length (sheet_bytes t))
  lies =
      let size : at + length (sheet_bytes t) - past bs at ≡ length (entry_bytes t) = omega (arith, ends) in
      record {
        header = omega (arith, ends, ends_inside);
        kind = kind;
        few = omega (arith, count, good.few);
        scope = ap scope_of body ∙ scope_front t.scope (cap_bytes t.make t.«cap» ++ (entry_bytes t ++ rest));
        «cap» = ap (cap_of t.make) body ∙ cap_front t.make t (entry_bytes t ++ rest) good.lacks good.fits good.few;
        entries = run_rows;
        shown = ap (λ n. take n (drop (past bs at) bs)) size ∙ ap (take (length (entry_bytes t))) from ∙ take_at (entry_bytes t) rest (length (entry_bytes t)) refl;
      }

-- a header is no entry, nor is the end
header_other : (m : Make) → is_entry (kind_of m) ≡ false
header_other Fit = refl
header_other Bar = refl
header_other Load = refl

abbrev ending : List Sheet → List ℕ
ending ts = flat_map sheet_bytes ts ++ 7 ∷ []

ending_some : (ts : List Sheet) → 0 < length (ending ts)
ending_some ts = omega (arith, length-append (flat_map sheet_bytes ts) (7 ∷ []))

ending_other : (ts : List Sheet) → is_entry (get_or (ending ts) 0 0) ≡ false
ending_other [] = refl
ending_other (t ∷ ts) = header_other t.make

-- sheets that are written from a place on lie there
ahead : (options bs : List ℕ) (at : ℕ) (ts : List Sheet) → AllByRecursion (GoodSheet options) ts → drop at bs ≡ ending ts → Ahead bs at ts
ahead options bs at [] g e = end (omega (arith, inside bs at (7 ∷ []) e (omega arith))) (first bs at (7 ∷ []) [] e (omega arith))
ahead options bs at (t ∷ ts) g e =
    let is : drop at bs ≡ sheet_bytes t ++ ending ts = e ∙ append_assoc (sheet_bytes t) (flat_map sheet_bytes ts) (7 ∷ []) in
    next (lies options bs at t (ending ts) g.0 is (ending_some ts) (ending_other ts))
    (ahead options bs (at + length (sheet_bytes t)) ts g.1 (drop_behind bs at (sheet_bytes t) (ending ts) is))

-- the slots stand at the front of a written list, two bytes each
front : (w : Content) → written w ≡ flat_map slot_bytes w.options ++ ending w.sheets
front w = append_assoc (flat_map slot_bytes w.options) (flat_map sheet_bytes w.sheets) (7 ∷ [])

pub slots_inside : (w : Content) → 2 * length w.options < length (written w)
slots_inside w =
    omega (arith, length_slots w.options, ending_some w.sheets, ap length (front w), length-append (flat_map slot_bytes w.options) (ending w.sheets))

pub slots_read : (w : Content) (i : ℕ) → i < length w.options → get_or (written w) (2 * i + 1) 0 ≡ get_or w.options i 0
slots_read w i h = ap (λ bs. get_or bs (2 * i + 1) 0) (front w) ∙ slot_read w.options (ending w.sheets) i h

-- and the sheets behind them
pub sheets_lie : (w : Content) → Sound w → Ahead (written w) (2 * length w.options) w.sheets
sheets_lie w s =
    ahead w.options (written w) (2 * length w.options) w.sheets s.good
    (ap (drop (2 * length w.options)) (front w) ∙ drop_at (flat_map slot_bytes w.options) (ending w.sheets) (2 * length w.options) (length_slots w.options))
