-- What a bar sheet keeps, by its rows. Assumes nothing.
use Rattle.std.proofs.Common.{◌≡◌, ℕ, zero, suc, ◌+◌, ◌*◌, ◌/◌, ◌<◌, true, false, not, ◌&&◌, eqb, ltb, List, [], ◌∷◌, length, get_or, Decides, sym, refl, ap, ◌∙◌, ⊎_elim, add-zero, zero-add, arith, rules}
use Rattle.std.proofs.lemmas.Slice.Eq.{compares_Decides}
use Rattle.std.proofs.lemmas.List.{ext_get_or}
use Rattle.std.proofs.lemmas.Bool.{false≢true, both_ways, and_parts, and_from, or_cases, or_left, or_right, not-true, not_from_false, lt-ltb, eq-eqb, cases_Bool}
use Rattle.boxes.specs.Boxes.{Fits}
use Rattle.boxes.proofs.Bits.{open_low}
use Rattle.catalogue.specs.declared.make.Make.TheVariants.{Bar}
use Rattle.catalogue.specs.Content.{Sheet, GoodSheet}
use Rattle.catalogue.specs.Checks.{all, same, has_list, is_load}
use Rattle.catalogue.specs.Views.{Shown, showing}
use Rattle.catalogue.specs.Writing.{entry_bytes}
use Rattle.sheets.specs.Tables.{row_at}
use Rattle.sheets.specs.Rules.{is_list, rule, admits}
use Rattle.sheets.proofs.Entries.{entries_rows, row_at_lem}
use Rattle.bar.specs.Bars.{rows_from, rows_of, keeps}

same_decides : (x y : List ℕ) → Decides (same x y) (x ≡ y)
same_decides x y = compares_Decides same (search rules) x y

-- a list that is found stands at some place, and one that stands at a place is found
found_at : (l : List ℕ) (xs : List (List ℕ)) → has_list l xs ≡ true → (i : ℕ) × (i < length xs) × (get_or xs i [] ≡ l)
found_at l [] e = absurd (false≢true e)
found_at l (x ∷ xs) e = ⊎_elim
    (λ h. (0, omega arith, sym ((same_decides l x).0 h)))
    (λ h. let t = found_at l xs h in (suc t.0, (let low : t.0 < length xs = t.1 in omega arith), t.2))
    (or_cases (same l x) (has_list l xs) e)

at_found : (l : List ℕ) (xs : List (List ℕ)) (i : ℕ) → i < length xs → get_or xs i [] ≡ l → has_list l xs ≡ true
at_found l [] i h e = absurd (omega arith)
at_found l (x ∷ xs) zero h e = or_left (same l x) (has_list l xs) ((same_decides l x).1 (sym e))
at_found l (x ∷ xs) (suc i) h e = or_right (same l x) (has_list l xs) (at_found l xs i (omega arith) e)

-- the rows one by one
rows_long : (entries : List ℕ) (k r n : ℕ) → length (rows_from entries k r n) ≡ n
rows_long entries k r zero = refl
rows_long entries k r (suc n) = ap suc (rows_long entries k (suc r) n)

rows_at : (entries : List ℕ) (k r n i : ℕ) → i < n → get_or (rows_from entries k r n) i [] ≡ row_at entries k (r + i)
rows_at entries k r zero i h = absurd (omega arith)
rows_at entries k r (suc n) zero h = ap (row_at entries k) (sym (add-zero r))
rows_at entries k r (suc n) (suc i) h = let e : suc r + i ≡ r + suc i = omega arith in rows_at entries k (suc r) n i (omega arith) ∙ ap (row_at entries k) e

row_of : (v : Shown) (r : ℕ) → r < length v.entries / 9 → get_or (rows_of v) r [] ≡ row_at v.entries (length v.scope) r
row_of v r h = rows_at v.entries (length v.scope) 0 (length v.entries / 9) r h ∙ ap (row_at v.entries (length v.scope)) (zero-add r)

low_all : (l : List ℕ) → ((p : ℕ) → p < length l → get_or l p 0 < 32) → all (λ o. ltb o 32) l ≡ true
low_all [] f = refl
low_all (o ∷ l) f = and_from (ltb o 32) (all (λ o. ltb o 32) l) (lt-ltb o 32 (f 0 (omega arith))) (low_all l (λ p h. f (suc p) (omega arith)))

-- a list that fits a box and is no row is kept
pub free_kept : (b : List ℕ) (v : Shown) (l : List ℕ) → Fits b v.scope l → ((r : ℕ) → r < length v.entries / 9 → row_at v.entries (length v.scope) r ≡ l → ⊥) → keeps v l ≡ true
unfolding keeps
free_kept b v l f free =
    let listed : is_list (length v.scope) l ≡ true = and_from (eqb (length l) (length v.scope)) (all (λ o. ltb o 32) l)
    (eq-eqb (length l) (length v.scope) f.long)
    (low_all l (λ p h. open_low b (get_or v.scope p 0) (get_or l p 0) (f.each p (omega (arith, f.long))))) in
    let none : has_list l (rows_of v) ≡ false = ⊎_elim
    (λ e. let t = found_at l (rows_of v) e in
    let low : t.0 < length v.entries / 9 = let h : t.0 < length (rows_of v) = t.1 in omega (arith, rows_long v.entries (length v.scope) 0 (length v.entries / 9)) in
    absurd (free t.0 low (sym (row_of v t.0 low) ∙ t.2)))
    (λ e. e)
    (cases_Bool (has_list l (rows_of v))) in
    and_from (is_list (length v.scope) l) (not (has_list l (rows_of v))) listed (not_from_false (has_list l (rows_of v)) none)

-- what is kept is no row
pub kept_free : (v : Shown) (l : List ℕ) → keeps v l ≡ true → (r : ℕ) → r < length v.entries / 9 → row_at v.entries (length v.scope) r ≡ l → ⊥
unfolding keeps
kept_free v l k r h e =
    let none : has_list l (rows_of v) ≡ false = not-true (has_list l (rows_of v)) (and_parts (is_list (length v.scope) l) (not (has_list l (rows_of v))) k).1 in
    both_ways (has_list l (rows_of v)) none
    (at_found l (rows_of v) r (omega (arith, rows_long v.entries (length v.scope) 0 (length v.entries / 9))) (row_of v r h ∙ e))

-- A good bar sheet keeps, as it is shown, what its rule admits.
rows_are : (options : List ℕ) (t : Sheet) → GoodSheet options t → t.make ≡ Bar → rows_of (showing t) ≡ t.rows
rows_are options t g m =
    let long : length (entry_bytes t) ≡ 9 * length t.rows = entries_rows options t g (ap is_load m) in
    let total : length (entry_bytes t) / 9 ≡ length t.rows = omega arith in
    let all-rows : length (rows_of (showing t)) ≡ length (entry_bytes t) / 9 = rows_long (entry_bytes t) (length t.scope) 0 (length (entry_bytes t) / 9) in
    ext_get_or [] (rows_of (showing t)) t.rows (all-rows ∙ total)
    (λ i h. row_of (showing t) i (omega arith) ∙ row_at_lem options t g i (omega arith))

pub keeps_admits : (options : List ℕ) (t : Sheet) → GoodSheet options t → t.make ≡ Bar → (l : List ℕ) → keeps (showing t) l ≡ admits t l
unfolding keeps
keeps_admits options t g m l =
    ap (λ rows. is_list (length t.scope) l && not (has_list l rows)) (rows_are options t g m) ∙ ap (λ k. rule k t l) (sym m)
