-- Masks gathered from the rows, a block of rows at a time. Assumes nothing.
use Rattle.std.proofs.Common.{inl, inr, ◌≡◌, ◌⊎◌, ℕ, ◌+◌, ◌-◌, ◌*◌, ◌%◌, ◌^◌, ◌<◌, ◌≤◌, bit_or, List, ◌++◌, length, get_or, drop, set, replicate, sym, refl, ap, ◌∙◌, subst, ⊎_elim, arith, length-append, length-set, get_or-drop, get_or-set_other, get_or-set_same}
use native.Mathlib.Nat.{zero-div}
use lib.ListN.{get_or-replicate}
use Rattle.std.proofs.Math.Seq.{drop-append_seam}
use Rattle.std.proofs.lemmas.Nat.Bits.{bit_at_or, bit_at-lt}
use Rattle.std.proofs.lemmas.List.{get_or_past, get_or_append_left, drop-drop}
use Rattle.std.proofs.lemmas.Bool.{cases_eq, cases_lt}
use Rattle.boxes.specs.Boxes.{Open, Bit}
use Rattle.boxes.proofs.Bits.{bit, single_bit}
use Rattle.sheets.specs.Tables.{row_at, option_at}
use Rattle.sheets.proofs.Reading.{option_in_row, row_length}
use Rattle.fit.specs.Positions.{FirstOnes, LeftOut, Peeled}
use Rattle.fit.specs.Rows.{Whole, Low, Backed, Held, Mask, Gathered}

-- the bits of two masks together
or_from : (a b o : ℕ) → Bit (bit_or a b) o → Bit a o ⊎ Bit b o
unfolding Bit
or_from a b o h =
    ⊎_elim (λ e. inl e) (λ ne. inr (omega (arith, h, ne, bit_at_or a b o, bit_at-lt a o, bit_at-lt b o))) (cases_eq (bit a o) 1)

or_left : (a b o : ℕ) → Bit a o → Bit (bit_or a b) o
unfolding Bit
or_left a b o h = omega (arith, h, bit_at_or a b o, bit_at-lt b o)

or_right : (a b o : ℕ) → Bit b o → Bit (bit_or a b) o
unfolding Bit
or_right a b o h = omega (arith, h, bit_at_or a b o, bit_at-lt a o)

no_bit : (k : ℕ) → Bit 0 k → ⊥
unfolding Bit
no_bit k h = let y : ◌≡◌ {A = ℕ} 0 1 = sym (ap (λ n. n % 2) (zero-div (2 ^ k))) ∙ h in omega arith

zero_at : (q : ℕ) → ◌≡◌ {A = ℕ} (get_or (replicate 8 0) q 0) 0
zero_at q = ⊎_elim (λ h. get_or-replicate 8 q 0 0 h) (λ h. get_or_past (replicate 8 0) q 0 h) (cases_lt q 8)

open_bit : (b : List ℕ) (s o mask : ℕ) → mask ≡ get_or b s 0 → Open b s o → Bit mask o
unfolding Open Bit
open_bit b s o mask e h = ap (λ n. bit n o) e ∙ h.1

backed_more : (rows entries : List ℕ) (m k p o : ℕ) → m ≤ k → Backed rows entries m p o → Backed rows entries k p o
backed_more rows entries m k p o le h = record { place = h.place; below = omega (arith, h.below); has = h.has }

-- the options of some rows at one position, row by row
module _ (rows entries : List ℕ) (p : ℕ) where
  pub held_none : Held rows entries 0 p 0
  held_none = record { sound = λ o z. absurd (no_bit o z); complete = λ o z. absurd (omega (arith, z.below)) }

  held_more : (place mask o : ℕ) → o < 32 → option_at entries (get_or rows place 0) p ≡ o → Held rows entries place p mask → Held rows entries (place + 1) p (bit_or mask ((1 * 2 ^ o) % 4294967296))
  held_more place mask o small is m =
      let one : ℕ = (1 * 2 ^ o) % 4294967296 in
      record {
        sound = λ u h.
            ⊎_elim
            (λ z. backed_more rows entries place (place + 1) p u (omega arith) (m.sound u z))
            (λ z. record { place = place; below = omega arith; has = is ∙ sym ((single_bit o small).only u z).0 })
            (or_from mask one u h);
        complete = λ u k.
            ⊎_elim
            (λ lt. or_left mask one u (m.complete u (record { place = k.place; below = lt; has = k.has })))
            (λ ge.
            let e : k.place ≡ place = omega (arith, k.below) in
            let f : o ≡ u = sym is ∙ ap (λ q. option_at entries (get_or rows q 0) p) (sym e) ∙ k.has in
            or_right mask one u (subst (Bit one) f ((single_bit o small).here small)))
            (cases_lt k.place place);
      }

  -- the row at `place`, as it is read
  module _ (row : List ℕ) (k place : ℕ) (at : p < k) (short : k ≤ 8) (whole : Whole rows entries) (low : Low rows entries k) (here : place < length rows) (is : row ≡ row_at entries k (get_or rows place 0)) where
    pub position_there : p < length row
    position_there = omega (arith, ap length is, row_length entries k (get_or rows place 0) short (whole.each place here))

    same : option_at entries (get_or rows place 0) p ≡ get_or row p 0
    same = sym (ap (λ l. get_or l p 0) is ∙ option_in_row entries k (get_or rows place 0) p at)

    pub option_low : get_or row p 0 < 32
    option_low = omega (arith, same, low.each place p here at)

    pub held_option : (mask : ℕ) → Held rows entries place p mask → Held rows entries (place + 1) p (bit_or mask ((1 * 2 ^ get_or row p 0) % 4294967296))
    held_option mask m = held_more place mask (get_or row p 0) option_low same m

-- a block lies in the rows from `place` to `upto`
pub record Block (rows block : List ℕ) (place upto : ℕ) : Type 0 where
  pub at : (j : ℕ) → j < length block → get_or block j 0 ≡ get_or rows (place + j) 0
  pub ends : upto ≡ place + length block
  pub within : upto ≤ length rows

-- how many rows lie before those that are left
abbrev pub before : List ℕ → List ℕ → ℕ
before rows rest = length rows - length rest

-- the last rows are left
pub record Ahead (rows rest : List ℕ) : Type 0 where
  pub is : rest ≡ drop (before rows rest) rows
  pub within : length rest ≤ length rows

pub ahead_all : (rows rest : List ℕ) → rest ≡ rows → Ahead rows rest
ahead_all rows rest e =
    let none : before rows rest ≡ 0 = omega (arith, ap length e) in
    record { is = e ∙ ap (λ n. drop n rows) (sym none); within = omega (arith, ap length e) }

module _ (rows rest block next : List ℕ) (x : Ahead rows rest) (is : rest ≡ block ++ next) where
  together : length rest ≡ length block + length next
  together = ap length is ∙ length-append block next

  pub begins : before rows rest ≡ before rows next - length block
  begins = omega (arith, together, x.within)

  pub ahead_next : Ahead rows next
  ahead_next =
      let e : before rows rest + length block ≡ before rows next = omega (arith, together, x.within) in
      record {
        is = sym (drop-append_seam block next) ∙ ap (drop (length block)) (sym is ∙ x.is) ∙ drop-drop (length block) (before rows rest) rows ∙ ap (λ n. drop n rows) e;
        within = omega (arith, together, x.within);
      }

  pub block_ahead : Block rows block (before rows next - length block) (before rows next)
  block_ahead = record {
    at = λ j h. sym (get_or_append_left block next 0 j h) ∙ ap (λ l. get_or l j 0) (sym is ∙ x.is) ∙ get_or-drop (before rows rest) rows j 0 ∙ ap (λ n. get_or rows (n + j) 0) begins;
    ends = omega (arith, together, x.within);
    within = omega arith;
  }

-- what is known of the rows is known of a block
module _ (rows block entries : List ℕ) (place upto : ℕ) (x : Block rows block place upto) where
  pub whole_block : Whole rows entries → Whole block entries
  whole_block w = record {
    each = λ p h. subst (λ (r : ℕ). 9 * r + 9 ≤ length entries) (sym (x.at p h)) (w.each (place + p) (omega (arith, x.ends, x.within)));
  }

  pub low_block : (k : ℕ) → Low rows entries k → Low block entries k
  low_block k w = record {
    each = λ q p h lt. subst (λ (r : ℕ). option_at entries r p < 32) (sym (x.at q h)) (w.each (place + q) p (omega (arith, x.ends, x.within)) lt);
  }

  -- a mask with the options of a block
  pub mask_joined : (b scope : List ℕ) (p mask held : ℕ) → Held block entries (length block) p held → Mask b scope rows entries place p mask → Mask b scope rows entries upto p (bit_or mask held)
  mask_joined b scope p mask held h m =
      record {
        sound = λ o z.
            ⊎_elim
            (λ l. backed_more rows entries place upto p o (omega (arith, x.ends)) (m.sound o l))
            (λ r.
            let k = h.sound o r in
            record { place = place + k.place; below = omega (arith, k.below, x.ends); has = ap (λ v. option_at entries v p) (sym (x.at k.place k.below)) ∙ k.has })
            (or_from mask held o z);
        complete = λ o k open_here.
            ⊎_elim
            (λ lt. or_left mask held o (m.complete o (record { place = k.place; below = lt; has = k.has }) open_here))
            (λ ge.
            let j : ℕ = k.place - place in
            let lt : j < length block = omega (arith, k.below, x.ends) in
            let e : place + j ≡ k.place = omega arith in
            or_right mask held o
            (h.complete o (record { place = j; below = lt; has = ap (λ v. option_at entries v p) (x.at j lt ∙ ap (λ i. get_or rows i 0) e) ∙ k.has })))
            (cases_lt k.place place);
      }

-- every option that is open in slot s of b has its bit in the mask
pub record Full (b : List ℕ) (s mask : ℕ) : Type 0 where
  pub each : (o : ℕ) → Open b s o → Bit mask o

-- The first k positions have the masks of the rows before `place`, and those that are not wanted any more are full.
pub record Passed (b scope rows entries masks : List ℕ) (k place wanted : ℕ) : Type 0 where
  pub long : length masks ≡ 8
  pub known : (q : ℕ) → Bit wanted q → q < k
  pub each : (q : ℕ) → q < k → Mask b scope rows entries place q (get_or masks q 0)
  pub full : (q : ℕ) → q < k → (Bit wanted q → ⊥) → Full b (get_or scope q 0) (get_or masks q 0)

-- The same in a block of the rows from `place` to `upto`, for which the positions in `turn` are still to be looked at.
pub record Passing (b scope rows entries masks : List ℕ) (k place upto turn wanted : ℕ) : Type 0 where
  pub long : length masks ≡ 8
  pub known : (q : ℕ) → Bit wanted q → q < k
  pub among : (q : ℕ) → Bit turn q → Bit wanted q
  pub next : (q : ℕ) → Bit turn q → Mask b scope rows entries place q (get_or masks q 0)
  pub past : (q : ℕ) → q < k → (Bit turn q → ⊥) → Mask b scope rows entries upto q (get_or masks q 0)
  pub full : (q : ℕ) → q < k → (Bit wanted q → ⊥) → Full b (get_or scope q 0) (get_or masks q 0)

module _ (b scope rows entries : List ℕ) (k : ℕ) where
  passed_none : (wanted : ℕ) → FirstOnes k wanted → Passed b scope rows entries (replicate 8 0) k 0 wanted
  passed_none wanted w =
      record {
        long = refl;
        known = w.only;
        each = λ q h. record {
          sound = λ o z. absurd (no_bit o (subst (λ m. Bit m o) (zero_at q) z));
          complete = λ o z. absurd (omega (arith, z.below));
        };
        full = λ q h no. absurd (no (w.all q h));
      }

  -- where all that is open has its bit, more rows alter nothing
  mask_full : (p n m mask : ℕ) → n ≤ m → Full b (get_or scope p 0) mask → Mask b scope rows entries n p mask → Mask b scope rows entries m p mask
  mask_full p n m mask le f x = record { sound = λ o z. backed_more rows entries n m p o le (x.sound o z); complete = λ o _ z. f.each o z }

  -- no row was passed yet
  pub passed_first : (rest : List ℕ) (wanted : ℕ) → rest ≡ rows → FirstOnes k wanted → Passed b scope rows entries (replicate 8 0) k (before rows rest) wanted
  passed_first rest wanted e w =
      let none : before rows rest ≡ 0 = omega (arith, ap length e) in
      subst (λ n. Passed b scope rows entries (replicate 8 0) k n wanted) (sym none) (passed_none wanted w)

  -- a block begins
  pub passing_start : (masks rest block next : List ℕ) (turn wanted : ℕ) → Ahead rows rest → rest ≡ block ++ next → turn ≡ wanted → Passed b scope rows entries masks k (before rows rest) wanted
      → Passing b scope rows entries masks k (before rows next - length block) (before rows next) turn wanted
  passing_start masks rest block next turn wanted ahead is same x =
      let start : ℕ = before rows next - length block in
      let p : Passed b scope rows entries masks k start wanted = subst (λ n. Passed b scope rows entries masks k n wanted) (begins rows rest block next ahead is) x in
      record {
        long = p.long;
        known = p.known;
        among = λ q h. subst (λ n. Bit n q) same h;
        next = λ q h. p.each q (p.known q (subst (λ n. Bit n q) same h));
        past = λ q h no.
            let gone : Bit wanted q → ⊥ = λ z. no (subst (λ n. Bit n q) (sym same) z) in
            mask_full q start (before rows next) (get_or masks q 0) (omega arith) (p.full q h gone) (p.each q h);
        full = p.full;
      }

  -- and ends
  pub passing_end : (masks : List ℕ) (place upto turn wanted : ℕ) → turn ≡ 0 → Passing b scope rows entries masks k place upto turn wanted → Passed b scope rows entries masks k upto wanted
  passing_end masks place upto turn wanted e x =
      record {
        long = x.long;
        known = x.known;
        each = λ q h. x.past q h (λ z. no_bit q (subst (λ n. Bit n q) e z));
        full = x.full;
      }

  -- one of its positions has the options of the block
  pub passing_more : (masks block : List ℕ) (place upto turn wanted p rest held : ℕ) → k ≤ 8 → Peeled turn p rest → Block rows block place upto → Held block entries (length block) p held
      → Passing b scope rows entries masks k place upto turn wanted → Passing b scope rows entries (set masks p (bit_or (get_or masks p 0) held)) k place upto rest wanted
  passing_more masks block place upto turn wanted p rest held short w x h f =
      let lt : p < k = f.known p (f.among p w.here) in
      let m : ℕ = bit_or (get_or masks p 0) held in
      let other : (q : ℕ) → (q ≡ p → ⊥) → get_or (set masks p m) q 0 ≡ get_or masks q 0 = λ q ne. get_or-set_other masks p q m 0 ne in
      let here : get_or (set masks p m) p 0 ≡ m = get_or-set_same masks p m 0 (omega (arith, f.long)) in
      record {
        long = length-set masks p m ∙ f.long;
        known = f.known;
        among = λ q z. f.among q (w.rest.less q z);
        next = λ q z.
            let ne : q ≡ p → ⊥ = λ e. w.rest.gone (subst (λ (u : ℕ). Bit rest u) e z) in
            subst (Mask b scope rows entries place q) (sym (other q ne)) (f.next q (w.rest.less q z));
        past = λ q z no. ⊎_elim
            (λ e. subst (λ u. Mask b scope rows entries upto u (get_or (set masks p m) u 0)) (sym e)
            (subst (Mask b scope rows entries upto p) (sym here) (mask_joined rows block entries place upto x b scope p (get_or masks p 0) held h (f.next p w.here))))
            (λ ne. subst (Mask b scope rows entries upto q) (sym (other q ne)) (f.past q z (λ y. no (w.rest.more q ne y))))
            (cases_eq q p);
        full = λ q z no. subst (Full b (get_or scope q 0)) (sym (other q (λ e. no (subst (λ (u : ℕ). Bit wanted u) (sym e) (f.among p w.here))))) (f.full q z no);
      }

  -- a position that is full is not wanted any more
  pub passing_full : (masks : List ℕ) (place upto turn wanted p left : ℕ) → (Bit turn p → ⊥) → LeftOut wanted p left → get_or masks p 0 ≡ get_or b (get_or scope p 0) 0 → Passing b scope rows entries masks k place upto turn wanted
      → Passing b scope rows entries masks k place upto turn left
  passing_full masks place upto turn wanted p left gone w e f =
      record {
        long = f.long;
        known = λ q h. f.known q (w.less q h);
        among = λ q h. w.more q (λ x. gone (subst (λ (u : ℕ). Bit turn u) x h)) (f.among q h);
        next = f.next;
        past = f.past;
        full = λ q h no. ⊎_elim
            (λ x. subst (λ (u : ℕ). Full b (get_or scope u 0) (get_or masks u 0)) (sym x) (record { each = λ o z. open_bit b (get_or scope p 0) o (get_or masks p 0) e z }))
            (λ ne. f.full q h (λ z. no (w.more q ne z)))
            (cases_eq q p);
      }

  -- all rows were passed
  pub passed_all : (masks : List ℕ) (place wanted : ℕ) → place ≡ length rows → Passed b scope rows entries masks k place wanted → Gathered b scope rows entries masks k
  passed_all masks place wanted e f = record { long = f.long; each = λ q h. subst (λ n. Mask b scope rows entries n q (get_or masks q 0)) e (f.each q h) }

  -- or all that is open has a support
  pub passed_full : (masks : List ℕ) (place upto turn wanted : ℕ) → upto ≤ length rows → wanted ≡ 0 → Passing b scope rows entries masks k place upto turn wanted → Gathered b scope rows entries masks k
  passed_full masks place upto turn wanted le e f =
      let none : (q : ℕ) → Bit wanted q → ⊥ = λ q z. no_bit q (subst (λ n. Bit n q) e z) in
      record {
        long = f.long;
        each = λ q h. mask_full q upto (length rows) (get_or masks q 0) le (f.full q h (none q)) (f.past q h (λ z. none q (f.among q z)));
      }
