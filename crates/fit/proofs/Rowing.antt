-- The rows of one sheet against a box. Assumes nothing.
use Rattle.std.proofs.Common.{◌≡◌, ℕ, ◌+◌, ◌*◌, ◌/◌, ◌%◌, ◌^◌, ◌<◌, ◌≤◌, bit_and, List, length, get_or, set, sym, ap, ◌∙◌, subst, arith, length-set, get_or-set_other, get_or-set_same, below_more}
use Rattle.std.proofs.lemmas.Nat.Bits.{shr_and_one}
use Rattle.catalogue.specs.declared.view.View.{View}
use Rattle.boxes.specs.Boxes.{Open, Fits, Bit}
use Rattle.sheets.specs.Tables.{row_at, option_at}
use Rattle.sheets.proofs.Reading.{option_in_row, row_length}
use Rattle.fit.specs.Rows.{Suits, CellsAt, OpenAlong}
use Rattle.fit.specs.Laid.{scope_shown, entries_of, row_count, row_of}

pub suits_at : (b scope entries : List ℕ) (r : ℕ) → Suits b scope entries r → (p : ℕ) → p < length scope → Open b (get_or scope p 0) (option_at entries r p)
suits_at b scope entries r s p lt = subst (Open b (get_or scope p 0)) (option_in_row entries (length scope) r p lt) (s.fits.each p lt)

module _ (views : List View) (s : ℕ) where
  -- a row that is there lies whole in the entries
  pub row_there : (r : ℕ) → r < row_count views s → 9 * r + 9 ≤ length (entries_of views s)
  unfolding row_count
  row_there r h = omega arith

  pub fits_row : (b : List ℕ) (r : ℕ) → Suits b (scope_shown views s) (entries_of views s) r → Fits b (scope_shown views s) (row_of views s r)
  unfolding row_of
  fits_row b r h = h.fits

  pub suits_row : (b : List ℕ) (r : ℕ) → Fits b (scope_shown views s) (row_of views s r) → Suits b (scope_shown views s) (entries_of views s) r
  unfolding row_of
  suits_row b r h = record { fits = h }

  pub option_row : (r p : ℕ) → p < length (scope_shown views s) → get_or (row_of views s r) p 0 ≡ option_at (entries_of views s) r p
  unfolding row_of
  option_row r p h = option_in_row (entries_of views s) (length (scope_shown views s)) r p h

-- a row that lies whole in the entries, as it is read
module _ (cells entries row : List ℕ) (r k : ℕ) (short : k ≤ 8) (whole : 9 * r + 9 ≤ length entries) (is : row ≡ row_at entries k r) where
  row_long : length row ≡ k
  row_long = ap length is ∙ row_length entries k r short whole

  option_read : (p : ℕ) → p < k → option_at entries r p ≡ get_or row p 0
  option_read p lt = sym (ap (λ l. get_or l p 0) is ∙ option_in_row entries k r p lt)

  -- its cells open one option more
  pub open_more : (n : ℕ) → n < length row → (bit_and (get_or cells n 0 / 2 ^ get_or row n 0) 1 ≡ 0 → ⊥) → OpenAlong cells entries r n → OpenAlong cells entries r (n + 1)
  unfolding Bit
  open_more n h set f =
      let one : (get_or cells n 0 / 2 ^ get_or row n 0) % 2 ≡ 1 = omega (arith, set, shr_and_one (get_or cells n 0) (get_or row n 0)) in
      record { each = below_more (λ p. Bit (get_or cells p 0) (option_at entries r p)) n f.each (subst (λ o. (get_or cells n 0 / 2 ^ o) % 2 ≡ 1) (sym (option_read n (omega (arith, row_long)))) one) }

  -- or do not
  pub open_not : (n : ℕ) → n < length row → bit_and (get_or cells n 0 / 2 ^ get_or row n 0) 1 ≡ 0 → OpenAlong cells entries r k → ⊥
  unfolding Bit
  open_not n h clear s =
      let lt : n < k = omega (arith, row_long) in
      let one : (get_or cells n 0 / 2 ^ get_or row n 0) % 2 ≡ 1 = subst (λ o. (get_or cells n 0 / 2 ^ o) % 2 ≡ 1) (option_read n lt) (s.each n lt) in
      omega (arith, clear, one, shr_and_one (get_or cells n 0) (get_or row n 0))

-- a row of options below 32 fits the box whose cells open it
module _ (b scope entries cells : List ℕ) (r : ℕ) (c : CellsAt b scope cells) where
  pub suits_open : Suits b scope entries r → OpenAlong cells entries r (length scope)
  unfolding Open Bit
  suits_open s = record { each = λ p h. subst (λ m. Bit m (option_at entries r p)) (sym (c.each p h)) (suits_at b scope entries r s p h).1 }

  pub open_suits : length scope ≤ 8 → 9 * r + 9 ≤ length entries → ((p : ℕ) → p < length scope → option_at entries r p < 32) → OpenAlong cells entries r (length scope) → Suits b scope entries r
  unfolding Open Bit
  open_suits short whole low x =
      record {
        fits = record {
          long = row_length entries (length scope) r short whole;
          each = λ p h. subst (Open b (get_or scope p 0)) (sym (option_in_row entries (length scope) r p h)) (low p h, subst (λ m. Bit m (option_at entries r p)) (c.each p h) (x.each p h));
        };
      }

-- the cells of the first n positions
pub record CellsSoFar (b scope cells : List ℕ) (n : ℕ) : Type 0 where
  pub long : length cells ≡ 8
  pub each : (p : ℕ) → p < n → get_or cells p 0 ≡ get_or b (get_or scope p 0) 0

-- one more
pub cells_more : (b scope cells : List ℕ) (n : ℕ) → n < 8 → CellsSoFar b scope cells n → CellsSoFar b scope (set cells n (get_or b (get_or scope n 0) 0)) (n + 1)
cells_more b scope cells n h x =
    record {
      long = length-set cells n (get_or b (get_or scope n 0) 0) ∙ x.long;
      each = below_more (λ p. get_or (set cells n (get_or b (get_or scope n 0) 0)) p 0 ≡ get_or b (get_or scope p 0) 0) n
          (λ p lt. get_or-set_other cells n p (get_or b (get_or scope n 0) 0) 0 (λ e. omega arith) ∙ x.each p lt)
          (get_or-set_same cells n (get_or b (get_or scope n 0) 0) 0 (omega (arith, x.long)));
    }
