-- That the sheets of a make, taken from a checked catalogue, are sound ones. Assumes nothing.
use Rattle.std.proofs.Common.{◌≡◌, ℕ, zero, suc, ◌+◌, ◌<◌, ◌≤◌, Bool, true, false, cond, List, [], ◌∷◌, ◌++◌, map, length, get_or, take, replicate, set, pos, Some, None, Ok, Err, filter, Result, sym, refl, ap, ◌∙◌, subst, arith}
use Rattle.std.specs.List.{slice_get, AllByRecursion}
use Rattle.std.proofs.ByRecursion.{all_kept_by, kept_by_passes, All-weaker}
use Rattle.std.proofs.lemmas.List.{length-map, length-set, take_all, take_more, take_more_set, map_push}
use Rattle.std.proofs.lemmas.Option.{slice_get-get_or}
use Rattle.std.proofs.lemmas.Bool.{false≢true}
use Rattle.catalogue.specs.declared.counts.Counts.{Counts}
use Rattle.catalogue.specs.declared.fault.Fault.{Fault}
use Rattle.catalogue.specs.declared.make.Make.{Make}
use Rattle.catalogue.specs.declared.make.Make.TheVariants.{Fit, Bar, Load}
use Rattle.catalogue.specs.declared.view.View.{View}
use Rattle.catalogue.specs.Content.{Sheet, Content, GoodSheet, is_one, rows_in, loads_in}
use Rattle.catalogue.specs.Verdict.{content, accepts}
use Rattle.catalogue.specs.Law.{Octets}
use Rattle.catalogue.specs.Views.{Shown, is_make, of_make, showing, showing_of, shown_by, seen, count_said, sheet_said}
use Rattle.catalogue.proofs.Held.{Held, held}
use Rattle.sheets.specs.Tables.{Taken, shown_in, shown_at, sheets_in}

-- the sheets of a make are some of all
same_make : (m k : Make) → is_make m k ≡ true → k ≡ m
same_make Fit Fit e = refl
same_make Fit Bar e = absurd (false≢true e)
same_make Fit Load e = absurd (false≢true e)
same_make Bar Fit e = absurd (false≢true e)
same_make Bar Bar e = refl
same_make Bar Load e = absurd (false≢true e)
same_make Load Fit e = absurd (false≢true e)
same_make Load Bar e = absurd (false≢true e)
same_make Load Load e = refl

module _ (m : Make) where
  abbrev ours : Sheet → Bool
  ours t = is_make m t.make

  kept_of : (ts : List Sheet) → filter ours ts ≡ of_make m ts
  kept_of [] = refl
  kept_of (t ∷ ts) = ap (λ l. cond (ours t) (t ∷ l) l) (kept_of ts)

  all_of : (P : Sheet → Type 0) (ts : List Sheet) → AllByRecursion P ts → AllByRecursion P (of_make m ts)
  all_of P ts a = subst (AllByRecursion P) (kept_of ts) (all_kept_by ours P ts a)

  made_of : (ts : List Sheet) → AllByRecursion (λ t. t.make ≡ m) (of_make m ts)
  made_of ts =
      subst (AllByRecursion (λ t. t.make ≡ m)) (kept_of ts)
      (All-weaker (λ t. ours t ≡ true) (λ t. t.make ≡ m) (λ t e. same_make m t.make e) (filter ours ts) (kept_by_passes ours ts))

  rows_of : (ts : List Sheet) → rows_in (of_make m ts) ≤ rows_in ts
  rows_of [] = omega arith
  rows_of (t ∷ ts) =
      let rest = rows_of ts in
      elim (ours t) as (λ b. rows_in (cond b (t ∷ of_make m ts) (of_make m ts)) ≤ length t.rows + rows_in ts) [ true ↦ omega arith | false ↦ omega arith ]

  loads_of : (ts : List Sheet) → loads_in (of_make m ts) ≤ loads_in ts
  loads_of [] = omega arith
  loads_of (t ∷ ts) =
      let rest = loads_of ts in
      elim (ours t) as (λ b. loads_in (cond b (t ∷ of_make m ts) (of_make m ts)) ≤ is_one t.make + loads_in ts) [ true ↦ omega arith | false ↦ omega arith ]

  long_of : (ts : List Sheet) → length (of_make m ts) ≤ length ts
  long_of [] = omega arith
  long_of (t ∷ ts) =
      let rest = long_of ts in
      elim (ours t) as (λ b. length (cond b (t ∷ of_make m ts) (of_make m ts)) ≤ suc (length ts)) [ true ↦ omega arith | false ↦ omega arith ]

-- what the accessors say of a make
pub count_said_lem : (r : Result Content Fault) (m : Make) → count_said r m ≡ length (sheets_in r m)
count_said_lem (Ok w) m = refl
count_said_lem (Err f) m = refl

nth_showing : (ts : List Sheet) (i : ℕ) → showing_of (slice_get ts i) ≡ slice_get (map showing ts) i
nth_showing [] i = refl
nth_showing (t ∷ ts) zero = refl
nth_showing (t ∷ ts) (suc i) = nth_showing ts i

pub sheet_said_lem : (r : Result Content Fault) (m : Make) (i : ℕ) → sheet_said r m i ≡ slice_get (map showing (sheets_in r m)) i
sheet_said_lem (Ok w) m i = nth_showing (of_make m w.sheets) i
sheet_said_lem (Err f) m i = refl

-- one view more
more : (views : List View) (want : List Shown) (i : ℕ) (v : View) → i < length views → i < length want → seen (Some v) ≡ slice_get want i → shown_in views i ≡ take i want → shown_in (set views i v) (i + 1) ≡ take (i + 1) want
more views want i v h l e k =
    let d = shown_by v in
    let n = slice_get-get_or want i d l in
    let x : shown_by v ≡ get_or want i d = cc in
    ap (map shown_by) (take_more_set views i v h) ∙ map_push shown_by (take i views) v ∙ ap (λ s. s ++ d ∷ []) k ∙ ap (λ y. take i want ++ y ∷ []) x ∙ sym (take_more want i d l)

-- there is a sheet at each place before the end
none_there : (want : List Shown) (i : ℕ) → i < length want → seen None ≡ slice_get want i → ⊥
none_there want i l e =
    let n = slice_get-get_or want i (record { scope = []; «cap» = pos 0; entries = [] }) l in
    let z : ◌≡◌ {A = ℕ} 0 1 = cc in
    omega arith

-- where each view shows nothing, nothing is shown anywhere
nothing_in : (n s : ℕ) (v : View) → shown_by v ≡ shown_at [] 0 → shown_at (replicate n v) s ≡ shown_at [] 0
nothing_in zero s v e = refl
nothing_in (suc n) zero v e = e
nothing_in (suc n) (suc s) v e = nothing_in n s v e

-- a view that is put in before a place changes nothing there
shown_past : (views : List View) (i s : ℕ) (v : View) → i < s → shown_at (set views i v) s ≡ shown_at views s
shown_past [] i s v l = refl
shown_past (w ∷ ws) zero zero v l = absurd (omega arith)
shown_past (w ∷ ws) zero (suc s) v l = refl
shown_past (w ∷ ws) (suc i) zero v l = absurd (omega arith)
shown_past (w ∷ ws) (suc i) (suc s) v l = shown_past ws i s v (omega arith)

-- the first i of n sheets of a make are taken, and no more
pub record Filled (r : Result Content Fault) (m : Make) (views : List View) (i n : ℕ) : Type 0 where
  pub long : length views ≡ 64
  pub within : i ≤ n
  pub shown : shown_in views i ≡ take i (map showing (sheets_in r m))
  pub rest : (s : ℕ) → i ≤ s → shown_at views s ≡ shown_at [] 0

module _ (r : Result Content Fault) (m : Make) where
  want_long : (n : ℕ) → n ≡ count_said r m → length (map showing (sheets_in r m)) ≡ n
  want_long n e = length-map (sheets_in r m) showing ∙ sym (count_said_lem r m) ∙ sym e

  pub filled_none : (views : List View) (n : ℕ) (v : View) → length views ≡ 64 → views ≡ replicate 64 v → shown_by v ≡ shown_at [] 0 → Filled r m views 0 n
  filled_none views n v e is nothing =
      record {
        long = e;
        within = omega arith;
        shown = refl;
        rest = λ s h. ap (λ l. shown_at l s) is ∙ nothing_in 64 s v nothing;
      }

  pub filled_all : (views all : List View) (i n : ℕ) → Filled r m views i n → n ≤ i → n ≡ count_said r m → all ≡ views → shown_in all n ≡ map showing (sheets_in r m)
  filled_all views all i n f h count e =
      let at : n ≡ i = omega (arith, f.within) in
      ap (λ l. shown_in l n) e ∙ ap (shown_in views) at ∙ f.shown ∙ take_all i _ (omega (arith, want_long n count))

  pub never_none : (i n : ℕ) → i < n → n ≡ count_said r m → seen None ≡ sheet_said r m i → ⊥
  never_none i n l count e =
      none_there (map showing (sheets_in r m)) i (omega (arith, want_long n count)) (e ∙ sheet_said_lem r m i)

module _ (bs : List ℕ) (c : Counts) (a : accepts bs c ≡ true) (o : Octets bs) (m : Make) where
  sheets_are : (h : Held bs c) → sheets_in (content bs) m ≡ of_make m h.list.sheets
  sheets_are h = ap (λ r. sheets_in r m) h.is

  -- a catalogue has at most 64 sheets of a make
  pub count_few : count_said (content bs) m ≤ 64
  count_few =
      let h = held bs c a o in
      omega (arith, count_said_lem (content bs) m, ap length (sheets_are h), long_of m h.list.sheets, h.sound.sheets)

  -- views that show the sheets of a make show sound ones
  pub taken_of : (views : List View) (n : ℕ) → shown_in views n ≡ map showing (sheets_in (content bs) m) → Taken m views n
  taken_of views n e =
      let h = held bs c a o in
      let w = h.list in
      record {
        options = w.options;
        sheets = of_make m w.sheets;
        slots = h.sound.slots;
        sizes = All-weaker (λ k. (1 ≤ k) × (k ≤ 32)) (λ k. k ≤ 32) (λ k p. p.1) w.options h.sound.sizes;
        good = all_of m (GoodSheet w.options) w.sheets h.sound.good;
        one_make = made_of m w.sheets;
        rows = omega (arith, rows_of m w.sheets, h.sound.rows);
        loads = omega (arith, loads_of m w.sheets, h.sound.loads);
        is = ap (map showing) (sym (sheets_are h)) ∙ sym e;
      }

  -- and just the catalogue's
  pub taken_sheets : (views : List View) (n : ℕ) (e : shown_in views n ≡ map showing (sheets_in (content bs) m)) → (taken_of views n e).sheets ≡ sheets_in (content bs) m
  unfolding taken_of
  taken_sheets views n e = sym (sheets_are (held bs c a o))

  -- one sheet more is taken, since there is one
  pub filled_more : (views next : List View) (i n : ℕ) (v : View) → Filled (content bs) m views i n → i < n → n ≡ count_said (content bs) m → seen (Some v) ≡ sheet_said (content bs) m i → next ≡ set views i v → Filled (content bs) m next (i + 1) n
  filled_more views next i n v f l count e is =
      let want = map showing (sheets_in (content bs) m) in
      let step = more views want i v (omega (arith, f.long, count_few)) (omega (arith, want_long (content bs) m n count)) (e ∙ sheet_said_lem (content bs) m i) f.shown in
      record {
        long = ap length is ∙ length-set views i v ∙ f.long;
        within = omega arith;
        shown = ap (λ l. shown_in l (i + 1)) is ∙ step;
        rest = λ s h. ap (λ l. shown_at l s) is ∙ shown_past views i s v (omega arith) ∙ f.rest s (omega arith);
      }
