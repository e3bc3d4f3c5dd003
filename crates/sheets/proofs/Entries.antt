-- How the rows and weights of a sound sheet are read from its bytes. Assumes nothing.
use Rattle.std.proofs.Common.{◌≡◌, ℕ, zero, suc, ◌+◌, ◌*◌, ◌/◌, ◌%◌, ◌<◌, ◌≤◌, true, false, List, [], ◌∷◌, ◌++◌, length, get_or, take, drop, ℤ, pos, negsuc, ◌≤ℤ◌, sym, refl, ap, ◌∙◌, ⊎_elim, append_assoc, append-nil, zero-add, arith, w16, SFits, to_z, of_z}
use Rattle.std.specs.List.{flat_map, AllByRecursion}
use Rattle.std.proofs.ByRecursion.{All-get_or, All-weaker}
use Rattle.std.proofs.lemmas.List.{length-append, take_at, drop_at, drop-drop, get_or_past, get_or_append_left, get_or-append-add}
use Rattle.std.proofs.lemmas.Int.{ints, to_z-of_z}
use Rattle.std.proofs.lemmas.Bool.{cases_lt, false≢true}
use Rattle.catalogue.specs.declared.make.Make.{Make}
use Rattle.catalogue.specs.declared.make.Make.TheVariants.{Fit, Bar, Load}
use Rattle.catalogue.specs.Content.{Weight, Sheet, GoodRow, GoodWeight, GoodSheet, Lacks}
use Rattle.catalogue.specs.Writing.{row_bytes, weight_bytes, entry_bytes}
use Rattle.catalogue.specs.Checks.{is_load, signed_two}
use Rattle.catalogue.proofs.Passing.{length_padded, length_row}
use Rattle.sheets.specs.Tables.{row_at}

-- a sheet that is not a load sheet has no weights, and a load sheet has no rows
no_weights : (m : Make) (t : Sheet) → Lacks m t → is_load m ≡ false → t.weights ≡ []
no_weights Fit t l e = l.0
no_weights Bar t l e = l.0
no_weights Load t l e = absurd (false≢true (sym e))

no_rows : (m : Make) (t : Sheet) → Lacks m t → is_load m ≡ true → t.rows ≡ []
no_rows Fit t l e = absurd (false≢true e)
no_rows Bar t l e = absurd (false≢true e)
no_rows Load t l e = l

pub weights_none : (options : List ℕ) (t : Sheet) → GoodSheet options t → is_load t.make ≡ false → t.weights ≡ []
weights_none options t g e = no_weights t.make t g.lacks e

pub rows_none : (options : List ℕ) (t : Sheet) → GoodSheet options t → is_load t.make ≡ true → t.rows ≡ []
rows_none options t g e = no_rows t.make t g.lacks e

-- rows of one length, one behind another: each is nine bytes
module _ (k : ℕ) (few : k ≤ 8) where
  long_row : (r : List ℕ) → length r ≡ k → length (row_bytes r) ≡ 9
  long_row r e = ap suc (length_padded r (omega arith))

  long_rows : (rs : List (List ℕ)) → AllByRecursion (λ r. length r ≡ k) rs → length (flat_map row_bytes rs) ≡ 9 * length rs
  long_rows [] a = refl
  long_rows (r ∷ rs) a =
      length-append (row_bytes r) (flat_map row_bytes rs) ∙ omega (arith, long_row r a.0, long_rows rs a.1)

  row_among : (rs : List (List ℕ)) (rest : List ℕ) → AllByRecursion (λ r. length r ≡ k) rs → (i : ℕ) → i < length rs → row_at (flat_map row_bytes rs ++ rest) k i ≡ get_or rs i []
  row_among [] rest a i h = absurd (omega arith)
  row_among (r ∷ rs) rest a zero h = simp append_assoc (take_at r _ k a.0)
  row_among (r ∷ rs) rest a (suc i) h =
      let more = flat_map row_bytes rs ++ rest in
      let here : flat_map row_bytes (r ∷ rs) ++ rest ≡ row_bytes r ++ more = append_assoc (row_bytes r) (flat_map row_bytes rs) rest in
      let place : 9 * suc i + 1 ≡ 9 + (9 * i + 1) = omega arith in
      let past : drop (9 * suc i + 1) (row_bytes r ++ more) ≡ drop (9 * i + 1) more = ap (λ n. drop n (row_bytes r ++ more)) place ∙ sym (drop-drop (9 * i + 1) 9 (row_bytes r ++ more)) ∙ ap (drop (9 * i + 1)) (drop_at (row_bytes r) more 9 (long_row r a.0)) in
      ap (λ l. take k (drop (9 * suc i + 1) l)) here ∙ ap (take k) past ∙ row_among rs rest a.1 i (omega arith)

-- each option of a row is one of its slot
known_option : (options scope xs : List ℕ) → GoodRow options scope xs → (p : ℕ) → p < length scope → get_or xs p 0 < get_or options (get_or scope p 0) 0
known_option options [] xs g p h = absurd (omega arith)
known_option options (s ∷ ss) [] g p h = absurd g
known_option options (s ∷ ss) (x ∷ xs) g zero h = g.0
known_option options (s ∷ ss) (x ∷ xs) g (suc p) h = known_option options ss xs g.1 p (omega arith)

-- no slot has more than 32 options
pub few_options : (options : List ℕ) → AllByRecursion (λ k. k ≤ 32) options → (s : ℕ) → get_or options s 0 ≤ 32
few_options options a s =
    ⊎_elim (λ l. All-get_or (λ k. k ≤ 32) options s 0 l a) (λ h. omega (arith, get_or_past options s 0 h)) (cases_lt s (length options))

module _ (options : List ℕ) (t : Sheet) (g : GoodSheet options t) where
  -- every row has an option for each slot of the scope
  pub rows_long : AllByRecursion (λ r. length r ≡ length t.scope) t.rows
  rows_long = All-weaker (GoodRow options t.scope) (λ r. length r ≡ length t.scope) (length_row options t.scope) t.rows g.rows

  pub row_long : (r : ℕ) → r < length t.rows → length (get_or t.rows r []) ≡ length t.scope
  row_long r h = All-get_or (λ l. length l ≡ length t.scope) t.rows r [] h rows_long

  pub row_known : (r p : ℕ) → r < length t.rows → p < length t.scope → get_or (get_or t.rows r []) p 0 < get_or options (get_or t.scope p 0) 0
  row_known r p h l = known_option options t.scope (get_or t.rows r []) (All-get_or (GoodRow options t.scope) t.rows r [] h g.rows) p l

  -- no option is above 31, wherever one is asked for
  pub row_low : AllByRecursion (λ k. k ≤ 32) options → (r p : ℕ) → get_or (get_or t.rows r []) p 0 < 32
  row_low few r p =
      ⊎_elim
      (λ h. ⊎_elim
      (λ l. omega (arith, row_known r p h l, few_options options few (get_or t.scope p 0)))
      (λ l. omega (arith, get_or_past (get_or t.rows r []) p 0 (omega (arith, row_long r h))))
      (cases_lt p (length t.scope)))
      (λ h. let none : get_or t.rows r [] ≡ [] = get_or_past t.rows r [] h in rw none (omega arith))
      (cases_lt r (length t.rows))

  -- the entries of a sheet that is not a load sheet are its rows
  pub entries_rows : is_load t.make ≡ false → length (entry_bytes t) ≡ 9 * length t.rows
  entries_rows e =
      let none : flat_map weight_bytes t.weights ≡ [] = ap (flat_map weight_bytes) (weights_none options t g e) in
      ap (λ l. length (flat_map row_bytes t.rows ++ l)) none ∙ ap length (append-nil (flat_map row_bytes t.rows)) ∙ long_rows (length t.scope) g.few t.rows rows_long

  pub row_at_lem : (r : ℕ) → r < length t.rows → row_at (entry_bytes t) (length t.scope) r ≡ get_or t.rows r []
  row_at_lem r h = row_among (length t.scope) g.few t.rows (flat_map weight_bytes t.weights) rows_long r h

-- weights, one behind another: each is five bytes
weights_long : (ws : List Weight) → length (flat_map weight_bytes ws) ≡ 5 * length ws
weights_long [] = refl
weights_long (w ∷ ws) = length-append (weight_bytes w) (flat_map weight_bytes ws) ∙ omega (arith, weights_long ws)

weight_among : (ws : List Weight) (d : Weight) (i j : ℕ) → i < length ws → j < 5 → get_or (flat_map weight_bytes ws) (5 * i + j) 0 ≡ get_or (weight_bytes (get_or ws i d)) j 0
weight_among [] d i j h l = absurd (omega arith)
weight_among (w ∷ ws) d zero j h l = rw zero-add (get_or_append_left (weight_bytes w) (flat_map weight_bytes ws) 0 j l)
weight_among (w ∷ ws) d (suc i) j h l =
    let place : 5 * suc i + j ≡ 5 + (5 * i + j) = omega arith in
    ap (λ n. get_or (flat_map weight_bytes (w ∷ ws)) n 0) place ∙ get_or-append-add (weight_bytes w) (flat_map weight_bytes ws) (5 * i + j) 0 ∙ weight_among ws d i j (omega arith) l

-- Weight i of a load sheet, w, lies at 5 * i of its entries.
pub record WeightAt (options : List ℕ) (t : Sheet) (i : ℕ) (w : Weight) : Type 0 where
  pub position : get_or (entry_bytes t) (5 * i + 1) 0 ≡ w.position
  pub option : get_or (entry_bytes t) (5 * i + 2) 0 ≡ w.option
  pub low_byte : get_or (entry_bytes t) (5 * i + 3) 0 ≡ of_z w16 w.amount % 256
  pub high_byte : get_or (entry_bytes t) (5 * i + 4) 0 ≡ of_z w16 w.amount / 256
  pub amount : signed_two (get_or (entry_bytes t) (5 * i + 3) 0 ∷ get_or (entry_bytes t) (5 * i + 4) 0 ∷ []) ≡ w.amount
  pub fits : SFits w16 w.amount
  pub good : GoodWeight options t.scope w

small_fits : (z : ℤ) → negsuc 29999 ≤ℤ z → z ≤ℤ pos 30000 → SFits w16 z
small_fits (pos n) low high = record { sfits = omega (arith, ints) }
small_fits (negsuc n) low high = record { sfits = omega (arith, ints) }

module _ (options : List ℕ) (t : Sheet) (g : GoodSheet options t) (none : t.rows ≡ []) where
  -- the entries of a sheet with no rows are its weights
  entries_are : entry_bytes t ≡ flat_map weight_bytes t.weights
  entries_are = ap (λ l. flat_map row_bytes l ++ flat_map weight_bytes t.weights) none

  pub entries_weights : length (entry_bytes t) ≡ 5 * length t.weights
  entries_weights = ap length entries_are ∙ weights_long t.weights

  pub weight_at_lem : (d : Weight) (i : ℕ) → i < length t.weights → WeightAt options t i (get_or t.weights i d)
  weight_at_lem d i h =
      let w = get_or t.weights i d in
      let good = All-get_or (GoodWeight options t.scope) t.weights i d h g.weights in
      let n = of_z w16 w.amount in
      let low : get_or (entry_bytes t) (5 * i + 3) 0 ≡ n % 256 = byte d i 3 h (omega arith) in
      let high : get_or (entry_bytes t) (5 * i + 4) 0 ≡ n / 256 = byte d i 4 h (omega arith) in
      let is : get_or (entry_bytes t) (5 * i + 3) 0 + get_or (entry_bytes t) (5 * i + 4) 0 * 256 ≡ n = omega arith in
      let fits = small_fits w.amount good.low good.high in
      record {
        position = byte d i 1 h (omega arith);
        option = byte d i 2 h (omega arith);
        low_byte = low;
        high_byte = high;
        amount = ap (to_z w16) is ∙ to_z-of_z w16 w.amount fits;
        fits = fits;
        good = good;
      }
    where
      byte : (d : Weight) (i j : ℕ) → i < length t.weights → j < 5 → get_or (entry_bytes t) (5 * i + j) 0 ≡ get_or (weight_bytes (get_or t.weights i d)) j 0
      byte d i j h l = ap (λ b. get_or b (5 * i + j) 0) entries_are ∙ weight_among t.weights d i j h l
