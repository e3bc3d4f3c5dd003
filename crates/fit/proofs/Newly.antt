-- A binder of fit sheets as it is first filled: its runs are laid, and it keeps every row. Assumes nothing.
use Rattle.std.proofs.Common.{◌≡◌, ℕ, zero, suc, ◌+◌, ◌*◌, ◌/◌, ◌<◌, ◌≤◌, true, false, ltb, List, [], ◌∷◌, map, length, get_or, replicate, Decides, sym, refl, ap, ◌∙◌, subst, ⊎_elim, arith}
use lib.ListN.{get_or-replicate}
use Rattle.std.specs.List.{AllByRecursion}
use Rattle.std.proofs.lemmas.Bool.{cases_lt, false≢true, or_cases, or_left, or_right, le-ltb, cond-false, and_left}
use Rattle.std.proofs.lemmas.Bool.Decides.{same_from_decides, Decides-like}
use Rattle.catalogue.specs.declared.counts.Counts.{Counts}
use Rattle.catalogue.specs.declared.make.Make.TheVariants.{Fit}
use Rattle.catalogue.specs.declared.view.View.{View}
use Rattle.catalogue.specs.Content.{Sheet, GoodSheet, rows_in}
use Rattle.catalogue.specs.Checks.{same, has_list, is_load}
use Rattle.catalogue.specs.Law.{Octets}
use Rattle.catalogue.specs.Verdict.{content, accepts}
use Rattle.catalogue.specs.Views.{showing, shown_by}
use Rattle.sheets.specs.Rules.{rule, Fresh}
use Rattle.sheets.specs.Tables.{Taken, shown_in, sheets_in, row_at}
use Rattle.sheets.proofs.Chosen.{taken_of, taken_sheets}
use Rattle.sheets.proofs.Entries.{entries_rows, row_at_lem, row_long, row_low}
use Rattle.sheets.proofs.Scopes.{GoodScope, scope_at}
use Rattle.sheets.proofs.Tabled.{At, at, sheets_long, none_at}
use Rattle.fit.specs.Laid.{scope_shown, row_count, rows_before, row_of, SoundViews, Each, RunsApart, Runs, Laid}
use Rattle.fit.specs.Meaning.{keeps, fitting, scope_here, same_decides, keeps_decides}
use Rattle.fit.proofs.Filled.{before_next}

-- a list is among the rows where it stands at some place
has_to : (l : List ℕ) (rows : List (List ℕ)) → has_list l rows ≡ true → (r : ℕ) × (r < length rows) × (get_or rows r [] ≡ l)
has_to l [] t = absurd (false≢true t)
has_to l (y ∷ ys) t =
    ⊎_elim
    (λ e. (0, omega arith, sym ((same_decides l y).0 e)))
    (λ e. let z = has_to l ys e in (suc z.0, omega (arith, z.1), z.2))
    (or_cases (same l y) (has_list l ys) t)

has_at : (l : List ℕ) (rows : List (List ℕ)) (r : ℕ) → r < length rows → get_or rows r [] ≡ l → has_list l rows ≡ true
has_at l [] r h e = absurd (omega arith)
has_at l (y ∷ ys) zero h e = or_left (same l y) (has_list l ys) ((same_decides l y).1 (sym e))
has_at l (y ∷ ys) (suc r) h e = or_right (same l y) (has_list l ys) (has_at l ys r (omega arith) e)

has_decides : (l : List ℕ) (rows : List (List ℕ)) → Decides (has_list l rows) ((r : ℕ) × (r < length rows) × (get_or rows r [] ≡ l))
has_decides l rows = (has_to l rows, λ z. has_at l rows z.0 z.1 z.2)

-- what view s shows of a fit sheet
module _ (options : List ℕ) (ts : List Sheet) (views : List View) (s : ℕ) (a : At options Fit ts views s) where
  plain : is_load a.sheet.make ≡ false
  plain = ap is_load a.make

  scope_is : scope_shown views s ≡ a.sheet.scope
  scope_is = ap (λ v. v.scope) a.shows

  count_is : row_count views s ≡ length a.sheet.rows
  unfolding row_count
  count_is =
      ap (λ v. length v.entries / 9) a.shows ∙ (let e = entries_rows options a.sheet a.good plain in omega arith)

  row_is : (r : ℕ) → r < row_count views s → row_of views s r ≡ get_or a.sheet.rows r []
  unfolding row_of
  row_is r h =
      ap (λ v. row_at v.entries (length v.scope) r) a.shows ∙ row_at_lem options a.sheet a.good r (omega (arith, count_is))

-- the rows of a table of fit sheets
front : (v : View) (vs : List View) (n : ℕ) → rows_before (v ∷ vs) (suc n) ≡ row_count (v ∷ vs) 0 + rows_before vs n
unfolding row_count
front v vs zero = omega arith
front v vs (suc n) = let h = front v vs n in omega arith

before_rows : (options : List ℕ) (ts : List Sheet) (views : List View) (n : ℕ) → AllByRecursion (GoodSheet options) ts → AllByRecursion (λ t. t.make ≡ Fit) ts → map showing ts ≡ shown_in views n → n ≤ length views → rows_before views n ≤ rows_in ts
unfolding row_count
before_rows options ts views zero good made e h = omega arith
before_rows options ts [] (suc n) good made e h = absurd (omega arith)
before_rows options [] (v ∷ vs) (suc n) good made e h = absurd (let z = ap length e in omega arith)
before_rows options (t ∷ ts) (v ∷ vs) (suc n) good made e h =
    let first : shown_by v ≡ showing t = cc in
    let rest : map showing ts ≡ shown_in vs n = cc in
    let one : length (shown_by v).entries ≡ 9 * length t.rows = ap (λ x. length x.entries) first ∙ entries_rows options t good.0 (ap is_load made.0) in
    let more = before_rows options ts vs n good.1 made.1 rest (omega arith) in
    omega (arith, front v vs n)

module _ (views : List View) (n : ℕ) (t : Taken Fit views n) (whole : n ≤ length views) where
  pub rows_few : rows_before views n ≤ 4096
  rows_few = omega (arith, before_rows t.options t.sheets views n t.good t.one_make t.is whole, t.rows)

  here : (s : ℕ) → s < n → At t.options Fit t.sheets views s
  here s h = at Fit views n t s h whole

  scopes : (s : ℕ) → s < n → GoodScope (scope_shown views s)
  scopes = scope_at Fit views n ∣ t ∣₁ whole

  sound : SoundViews views n
  sound =
      record {
        some = λ s h. (scopes s h).some;
        short = λ s h. (scopes s h).short;
        slots = λ s p h. (scopes s h).covered p;
        apart = λ s p q h. (scopes s h).apart p q;
        long = λ s r h k. let a = here s h in ap length (row_is _ _ views s a r k) ∙ row_long t.options a.sheet a.good r (omega (arith, count_is _ _ views s a)) ∙ ap length (sym (scope_is _ _ views s a));
        options = λ s r p h k l. let a = here s h in subst (λ x. get_or x p 0 < 32) (sym (row_is _ _ views s a r k)) (row_low t.options a.sheet a.good t.sizes r p);
      }

  module _ (starts counts : List ℕ) (begins : Each (rows_before views) starts n) (counted : Each (row_count views) counts n) (few : n ≤ 64) where
    next : (s k : ℕ) → s < k → k ≤ n → get_or starts s 0 + row_count views s ≤ rows_before views k
    next s k h l = omega (arith, begins.is s (omega arith), before_next views s k h)

    pub runs_apart : RunsApart starts counts n
    runs_apart =
        record {
          few = few;
          room = λ s h. omega (arith, next s n h (omega arith), counted.is s h, rows_few);
          apart = λ s k h l. omega (arith, next s k h (omega arith), counted.is s (omega arith), begins.is k l);
        }

    module _ (order : List ℕ) (runs : Runs starts counts order n) where
      place : (s p : ℕ) → s < n → p < row_count views s → get_or order (get_or starts s 0 + p) 0 ≡ p
      place s p h k = runs.each s p h (omega (arith, counted.is s h))

      pub laid_first : (marks : ℕ) → marks ≡ 0 → Laid views n starts order counts (replicate 72 (replicate 64 0)) marks
      laid_first marks none =
          record {
            sound = sound;
            few = few;
            low = omega arith;
            counted = counted.long;
            deep = refl;
            wide = λ i h. ap length (get_or-replicate 72 i (replicate 64 0) [] h);
            within = λ s h. omega (arith, counted.is s h);
            room = λ s h. omega (arith, next s n h (omega arith), rows_few);
            apart = λ s k h l. omega (arith, next s k h (omega arith), begins.is k l);
            rows = λ s p h k. omega (arith, place s p h k);
            above = λ i s h. absurd (omega arith);
            capped = λ i s h. absurd (omega arith);
            falls = λ i j s h k. absurd (omega arith);
          }

      -- the rows at the places of a run are the sheet's rows
      kept_rows : (s : ℕ) (h : s < n) (l : List ℕ) → Decides (keeps views n starts order s (get_or counts s 0) l) ((r : ℕ) × (r < length (here s h).sheet.rows) × (get_or (here s h).sheet.rows r [] ≡ l))
      kept_rows s h l =
          let a = here s h in
          let all : row_count views s ≡ length a.sheet.rows = count_is _ _ views s a in
          Decides-like (keeps views n starts order s (get_or counts s 0) l)
          (λ z.
          let k = z.1 in
          let below : k.among.place < row_count views s = omega (arith, k.among.below, counted.is s h) in
          let is : k.among.place ≡ k.row = sym (place s k.among.place h below) ∙ k.among.is in
          let there : k.row < row_count views s = omega arith in
          (k.row, omega arith, sym (row_is _ _ views s a k.row there) ∙ k.reads))
          (λ z.
          let there : z.0 < row_count views s = omega (arith, z.1) in (
            h,
            record {
              row = z.0;
              among = record { place = z.0; below = omega (arith, counted.is s h); is = place s z.0 h there };
              reads = row_is _ _ views s a z.0 there ∙ z.2;
            },
          ))
          (keeps_decides views n starts order s (get_or counts s 0) l)

      fresh_taken : (marks : ℕ) → marks ≡ 0 → Fresh t.sheets (fitting views n starts order counts (replicate 72 (replicate 64 0)) marks)
      unfolding keeps
      fresh_taken marks none =
          let long : length t.sheets ≡ n = sheets_long Fit views n t whole in
          record {
            count = sym long;
            scope = λ s.
                ⊎_elim
                (λ h. let a = here s h in scope_here views n s h ∙ scope_is _ _ views s a ∙ sym a.scope)
                (λ h. cond-false (ltb s n) (scope_shown views s) [] (le-ltb s n h) ∙ sym (none_at t.sheets s (omega arith)).scope)
                (cases_lt s n);
            kept = λ s l.
                ⊎_elim
                (λ h. let a = here s h in
                same_from_decides _ _ (kept_rows s h l) (has_decides l a.sheet.rows) ∙ ap (λ m. rule m a.sheet l) (sym a.make) ∙ sym (a.admits l))
                (λ h. and_left (ltb s n) _ (le-ltb s n h) ∙ sym ((none_at t.sheets s (omega arith)).admits l))
                (cases_lt s n);
            marks = none;
          }

-- the same for the fit sheets of a checked catalogue
module _ (bs : List ℕ) (c : Counts) (ok : accepts bs c ≡ true) (o : Octets bs) (views : List View) (n : ℕ) (e : shown_in views n ≡ map showing (sheets_in (content bs) Fit)) (whole : n ≤ length views) where
  pub taken : Taken Fit views n
  taken = taken_of bs c ok o Fit views n e

  pub fresh : (starts counts order : List ℕ) → Each (rows_before views) starts n → Each (row_count views) counts n → n ≤ 64 → Runs starts counts order n → (marks : ℕ) → marks ≡ 0
      → Fresh (sheets_in (content bs) Fit) (fitting views n starts order counts (replicate 72 (replicate 64 0)) marks)
  unfolding taken
  fresh starts counts order begins counted few runs marks none =
      subst (λ ts. Fresh ts (fitting views n starts order counts (replicate 72 (replicate 64 0)) marks)) (taken_sheets bs c ok o Fit views n e)
      (fresh_taken views n taken whole starts counts begins counted few order runs marks none)
