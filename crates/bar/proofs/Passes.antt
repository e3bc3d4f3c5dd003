-- The steps of the counting loops. Assumes nothing.
use Rattle.std.proofs.Common.{◌≡◌, ℕ, ◌+◌, ◌*◌, ◌/◌, ◌%◌, ◌^◌, ◌<◌, ◌≤◌, nat_eq, nat_lt, bit_and, List, [], ◌++◌, length, get_or, take, drop, set, replicate, Decides, sym, ap, refl, ◌∙◌, subst, ⊎_elim, arith, length-drop, get_or-set_other, get_or-set_same, below_more, w32}
use lib.Bits.{bit_or}
use lib.Count.{ones}
use Rattle.std.proofs.lemmas.Nat.Bits.{bit_at-zero, bit_at_set_same, bit_at_set_other}
use Rattle.std.proofs.lemmas.List.{get_or-replicate, drop_at, drop-drop, drop-append-le, take-append-le, length-append}
use Rattle.std.proofs.lemmas.Nat.{and_mask}
use Rattle.std.proofs.lemmas.Bool.{cases_eq, eqb-true, eq-eqb, ltb-true}
use Rattle.boxes.specs.Boxes.{Open, Fits, Bit}
use Rattle.boxes.proofs.Bits.{open_low}
use Rattle.sheets.specs.Tables.{row_at}
use Rattle.bar.specs.Counted.{HowMany, product}
use Rattle.bar.specs.Tally.{Measures, Bears, Tallied, Fewer, Room, Marks}
use Rattle.bar.proofs.Bitcount.{counts_ones}
use Rattle.bar.proofs.Counting.{counts_none, counts_yes, counts_no, counts_same}

-- a bit of a cell, as the code tests it
pub shifted : (b : List ℕ) (s o : ℕ) → o < 32 → Decides (nat_eq (bit_and (get_or b s 0 / 2 ^ o) 1) 1) (Open b s o)
unfolding Open
shifted b s o low = (
  λ t. (low, sym (and_mask (get_or b s 0 / 2 ^ o) 1) ∙ eqb-true (bit_and (get_or b s 0 / 2 ^ o) 1) 1 t),
  λ k. eq-eqb (bit_and (get_or b s 0 / 2 ^ o) 1) 1 (and_mask (get_or b s 0 / 2 ^ o) 1 ∙ k.1),
)

pub shut : (b : List ℕ) (s o : ℕ) → 32 ≤ o → Decides (nat_lt o 32) (Open b s o)
shut b s o h = (λ t. absurd (omega (arith, ltb-true o 32 t)), λ k. absurd (omega (arith, open_low b s o k)))

-- row r is nine bytes of the entries, and the next row is behind it
module _ (entries rest row next : List ℕ) (r : ℕ) (here : rest ≡ drop (9 * r) entries) (cut : rest ≡ row ++ next) (nine : length row ≡ 9) where
  row_whole : 9 * r + 9 ≤ length entries
  row_whole = omega (arith, length-drop (9 * r) entries, ap length here, ap length cut, length-append row next)

  row_next : next ≡ drop (9 * (r + 1)) entries
  row_next =
      let e : 9 * r + 9 ≡ 9 * (r + 1) = omega arith in
      sym (drop_at row next 9 nine) ∙ ap (drop 9) (sym cut ∙ here) ∙ drop-drop 9 (9 * r) entries ∙ ap (λ n. drop n entries) e

  row_options : (k : ℕ) → k ≤ 8 → take k (drop 1 row) ≡ row_at entries k r
  row_options k h =
      sym (take-append-le k (drop 1 row) next (omega (arith, length-drop 1 row))) ∙ ap (take k) (sym (drop-append-le 1 row next (omega arith)) ∙ ap (drop 1) (sym cut ∙ here) ∙ drop-drop 1 (9 * r) entries)

-- of the first r rows, how many have each option at each position
pub record Counting (b scope entries : List ℕ) (r : ℕ) (rest : List ℕ) (counts : List (List ℕ)) : Type 0 where
  pub here : rest ≡ drop (9 * r) entries
  pub whole : 9 * r ≤ length entries
  pub each : (p o : ℕ) → p < length scope → o < 32 → HowMany (Bears b scope entries p o) r (get_or (get_or counts p []) o 0)

module _ (b scope entries : List ℕ) (short : length scope ≤ 8) where
  pub counting_none : Counting b scope entries 0 entries (replicate 8 (replicate 32 0))
  counting_none = record {
    here = refl;
    whole = omega arith;
    each = λ p o hp ho. subst (λ (c : ℕ). HowMany (Bears b scope entries p o) 0 c)
        (sym (ap (λ l. get_or l o 0) (get_or-replicate 8 p (replicate 32 0) [] (omega arith)) ∙ get_or-replicate 32 o 0 0 ho)) (counts_none (Bears b scope entries p o));
  }

  module _ (rest row next options : List ℕ) (r : ℕ) (cut : rest ≡ row ++ next) (nine : length row ≡ 9) (is : options ≡ take (length scope) (drop 1 row)) where
    same_row : rest ≡ drop (9 * r) entries → options ≡ row_at entries (length scope) r
    same_row here = is ∙ row_options entries rest row next r here cut nine (length scope) short

    pub counting_no : (counts : List (List ℕ)) → (Fits b scope options → ⊥) → Counting b scope entries r rest counts → Counting b scope entries (r + 1) next counts
    counting_no counts bad was = record {
      here = row_next entries rest row next r was.here cut nine;
      whole = omega (arith, row_whole entries rest row next r was.here cut nine);
      each = λ p o hp ho. counts_no (Bears b scope entries p o) r (get_or (get_or counts p []) o 0) (was.each p o hp ho)
          (λ k. bad (subst (Fits b scope) (sym (same_row was.here)) k.fits));
    }

    pub counting_yes : (xs ys : List (List ℕ)) → Fits b scope options → Tallied options (length options) xs ys → Counting b scope entries r rest xs → Counting b scope entries (r + 1) next ys
    counting_yes xs ys good t was = record {
      here = row_next entries rest row next r was.here cut nine;
      whole = omega (arith, row_whole entries rest row next r was.here cut nine);
      each = λ p o hp ho. ⊎_elim
          (λ f. subst (λ (c : ℕ). HowMany (Bears b scope entries p o) (r + 1) c)
          (sym (subst (λ (u : ℕ). get_or (get_or ys p []) u 0 ≡ get_or (get_or xs p []) u 0 + 1) f (t.hit p (omega (arith, good.long)))))
          (counts_yes (Bears b scope entries p o) r (get_or (get_or xs p []) o 0) (was.each p o hp ho)
          (record { fits = subst (Fits b scope) (same_row was.here) good; has = ap (λ l. get_or l p 0) (sym (same_row was.here)) ∙ f })))
          (λ ne. subst (λ (c : ℕ). HowMany (Bears b scope entries p o) (r + 1) c) (sym (t.miss p o (λ _. ne)))
          (counts_no (Bears b scope entries p o) r (get_or (get_or xs p []) o 0) (was.each p o hp ho) (λ k. ne (ap (λ l. get_or l p 0) (same_row was.here) ∙ k.has))))
          (cases_eq (get_or options p 0) o);
    }

-- one position more is counted
module _ (options : List ℕ) (n : ℕ) (xs ys : List (List ℕ)) (was : Tallied options n xs ys) (here : n < length ys) (low : get_or options n 0 < length (get_or ys n [])) where
  counted : List (List ℕ)
  counted = set ys n (set (get_or ys n []) (get_or options n 0) (get_or (get_or ys n []) (get_or options n 0) 0 + 1))

  pub tallied_more : Tallied options (n + 1) xs (set ys n (set (get_or ys n []) (get_or options n 0) (get_or (get_or ys n []) (get_or options n 0) 0 + 1)))
  unfolding counted
  tallied_more =
      let row = get_or ys n [] in
      let place = get_or options n 0 in
      let grown = set row place (get_or row place 0 + 1) in
      let same : get_or counted n [] ≡ grown = get_or-set_same ys n grown [] here in
      let other : (p : ℕ) → (p ≡ n → ⊥) → get_or counted p [] ≡ get_or ys p [] = λ p ne. get_or-set_other ys n p grown [] ne in
      record {
        hit = below_more (λ p. get_or (get_or counted p []) (get_or options p 0) 0 ≡ get_or (get_or xs p []) (get_or options p 0) 0 + 1) n
            (λ p h. ap (λ l. get_or l (get_or options p 0) 0) (other p (λ e. omega arith)) ∙ was.hit p h)
            (ap (λ l. get_or l place 0) same ∙ get_or-set_same row place (get_or row place 0 + 1) 0 low ∙ ap (λ k. k + 1) (was.miss n place (λ h. absurd (omega arith))));
        miss = λ p o f. ⊎_elim
            (λ e. rw e (ap (λ l. get_or l o 0) same ∙ get_or-set_other row place o (get_or row place 0 + 1) 0 (λ g. f (omega arith) (ap (λ q. get_or options q 0) e ∙ sym g)) ∙ was.miss n o (λ h. absurd (omega arith))))
            (λ ne. ap (λ l. get_or l o 0) (other p ne) ∙ was.miss p o (λ h. f (omega arith)))
            (cases_eq p n);
      }

-- the open options of a slot are the bits of its cell
open_count : (b : List ℕ) (s n : ℕ) → HowMany (Bit (get_or b s 0)) 32 n → HowMany (Open b s) 32 n
unfolding Open Bit
open_count b s n k = counts_same (Bit (get_or b s 0)) (Open b s) 32 n (λ o h q. (h, q)) (λ o h q. q.1) k

-- the size of a position that is there, by the cell of its slot
pub measured : (b scope : List ℕ) (p slot : ℕ) → p < length scope → slot ≡ get_or scope p 0 → get_or b slot 0 < 2 ^ 32 → Measures b scope p (ones (get_or b slot 0))
measured b scope p slot h e low =
    let k : HowMany (Open b (get_or scope p 0)) 32 (ones (get_or b slot 0)) =
    subst (λ (s : ℕ). HowMany (Open b s) 32 (ones (get_or b slot 0))) e (open_count b slot _ (counts_ones (get_or b slot 0) 32 low)) in
    record { counts = λ l. k; past = λ l. absurd (omega arith); few = k.few }

-- the bits of a mask, one by one
module _ (P : ℕ → Type 0) where
  pub marks_none : Marks P 0 0
  unfolding Bit
  marks_none = record {
    sound = λ o h. absurd (let y : ◌≡◌ {A = ℕ} 0 1 = sym (bit_at-zero o) ∙ h in omega arith);
    complete = λ o h. absurd (omega arith);
  }

  pub marks_no : (n m : ℕ) → (P n → ⊥) → Marks P n m → Marks P (n + 1) m
  marks_no n m none was = record {
    sound = λ o h. let t = was.sound o h in (let l : o < n = t.0 in omega arith, t.1);
    complete = below_more (λ o. P o → Bit m o) n was.complete (λ h. absurd (none h));
  }

  pub marks_yes : (n m : ℕ) → n < 32 → P n → Marks P n m → Marks P (n + 1) (bit_or m ((1 * 2 ^ n) % 2 ^ 32))
  unfolding Bit
  marks_yes n m low here was = record {
    sound = λ o h. ⊎_elim
        (λ e. (omega arith, subst P (sym e) here))
        (λ ne. let t = was.sound o (sym (bit_at_set_other w32 m n low o ne) ∙ h) in (let l : o < n = t.0 in omega arith, t.1))
        (cases_eq o n);
    complete = below_more (λ o. P o → Bit (bit_or m ((1 * 2 ^ n) % 2 ^ 32)) o) n (λ o l h. bit_at_set_other w32 m n low o (λ e. omega arith) ∙ was.complete o l h) (λ h. bit_at_set_same w32 m n low);
  }

-- what is counted fewer times than there are lists
pub room_marks : (counts sizes : List ℕ) (p many mask : ℕ) → many ≡ product (set sizes p 1) → Marks (Fewer counts many) 32 mask → Marks (Room counts sizes p) 32 mask
room_marks counts sizes p many mask e k = record {
  sound = λ o h. let t = k.sound o h in (t.0, record { room = subst (λ (n : ℕ). get_or counts o 0 < n) e t.1.less });
  complete = λ o l h. k.complete o l (record { less = subst (λ (n : ℕ). get_or counts o 0 < n) (sym e) h.room });
}
