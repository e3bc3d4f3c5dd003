-- The open options of a box counted and found. Assumes nothing.
use Rattle.std.proofs.Common.{◌≡◌, ℕ, zero, suc, ◌+◌, ◌-◌, ◌*◌, ◌/◌, ◌%◌, ◌^◌, ◌<◌, ◌≤◌, Bool, true, false, not, nat_eq, cond, ◌&&◌, T, eqb, ltb, ◌⊎◌, ◌↔◌, Decides, Option, MatchOption, List, [], ◌∷◌, length, get_or, take, sym, refl, ap, ◌∙◌, subst, inl, inr, ⊎_elim, mod-eq_of_lt, add-one, one-add, arith, eqb→eq, ltb→lt, lt→ltb}
use Rattle.std.specs.Prelude.{None, Some as Given}
use native.Mathlib.Nat.{mod-one}
use lib.Count.{ones, ones_cat}
use lib.Dec.{eqb_refl, leb}
use Rattle.std.specs.Bool.{then_some}
use Rattle.std.specs.Int.{bit_at, trailing_zeros, w32}
use Rattle.std.specs.Int.RustNames.{bit_xor}
use Rattle.std.specs.List.{sum_by, AllWithin, HoldsAt}
use Rattle.std.proofs.lemmas.Nat.{mod-pow-add, mod_below, pow_pos, one_shl, xor_lt}
use Rattle.std.proofs.lemmas.Nat.Bits.{bit_at-trailing_zeros, bit_at_xor, bit_at-zero, bit_at-lt, same_from_bits}
use Rattle.std.proofs.lemmas.List.{take_all}
use Rattle.std.proofs.lemmas.List.Sums.{sum_by_more}
use Rattle.std.proofs.lemmas.Bool.Decides.{nat_tests}
use Rattle.std.proofs.lemmas.Bool.{cases_eq, cases_lt, eq-eqb, eqb-false, ne_eqb, leb-true, le-leb, not-true, not_from_false}
use Rattle.subject.specs.Boxes.{Box, Inside, sum, opened_at, opened}
use Rattle.subject.proofs.Bits as Number
use Rattle.boxes.specs.Boxes.{Open, opens, Bit, Below, Filled, Some, Least, Lowest, Loose, Two, Within, Differ}
use Rattle.boxes.proofs.Bits.{open_low, open_there}

pub both : (x y : Bool) → T (x && y) ↔ (T x × T y)
both true true = (λ t. (tt, tt), λ t. tt)
both true false = (λ t. absurd t, λ t. t.1)
both false true = (λ t. absurd t, λ t. t.0)
both false false = (λ t. absurd t, λ t. t.0)

-- the test says what is open
pub opens_is : (b : List ℕ) (s o : ℕ) → T (opens b s o) ↔ Open b s o
unfolding opens Open
opens_is b s o =
    let p = both (ltb o 32) (eqb ((get_or b s 0 / 2 ^ o) % 2) 1) in (
      λ t. (ltb→lt o 32 (p.0 t).0, eqb→eq _ 1 (p.0 t).1),
      λ h. p.1 (lt→ltb o 32 h.0, subst (λ k. T (eqb k 1)) (sym h.1) (eqb_refl 1)),
    )

-- ---- sums of tests

pub sum_same : (f g : ℕ → ℕ) (n : ℕ) → ((i : ℕ) → i < n → f i ≡ g i) → sum f n ≡ sum g n
sum_same f g zero e = refl
sum_same f g (suc n) e = omega (arith, sum_same f g n (λ i lt. e i (omega arith)), e n (omega arith))

one_of : (t : Bool) → T t → ◌≡◌ {A = ℕ} (cond t 1 0) 1
one_of true h = refl
one_of false h = absurd h

one_split : (t : Bool) → T t ⊎ (◌≡◌ {A = ℕ} (cond t 1 0) 0)
one_split true = inl tt
one_split false = inr refl

module _ (f : ℕ → Bool) where
  some_counts : (n i : ℕ) → i < n → T (f i) → 1 ≤ sum (λ o. cond (f o) 1 0) n
  some_counts zero i h t = absurd (omega arith)
  some_counts (suc n) i h t =
      ⊎_elim (λ e. let z : ◌≡◌ {A = ℕ} (cond (f n) 1 0) 1 = one_of (f n) (subst (λ k. T (f k)) e t) in omega (arith, z)) (λ ne. let z = some_counts n i (omega arith) t in omega (arith, z)) (cases_eq i n)

  two_count : (n i j : ℕ) → i < j → j < n → T (f i) → T (f j) → 2 ≤ sum (λ o. cond (f o) 1 0) n
  two_count zero i j h k t u = absurd (omega arith)
  two_count (suc n) i j h k t u =
      ⊎_elim
      (λ e. let z : ◌≡◌ {A = ℕ} (cond (f n) 1 0) 1 = one_of (f n) (subst (λ k. T (f k)) e u) in let y = some_counts n i (omega arith) t in omega (arith, z, y))
      (λ ne. let z = two_count n i j h (omega arith) t u in omega (arith, z))
      (cases_eq j n)

  count_some : (n : ℕ) → 1 ≤ sum (λ o. cond (f o) 1 0) n → (i : ℕ) × (i < n) × T (f i)
  count_some zero h = absurd (omega arith)
  count_some (suc n) h =
      ⊎_elim (λ t. (n, omega arith, t)) (λ z. let i = count_some n (omega (arith, z)) in (i.0, omega (arith, i.1), i.2)) (one_split (f n))

  count_two : (n : ℕ) → 2 ≤ sum (λ o. cond (f o) 1 0) n → (i j : ℕ) × (i < j) × (j < n) × T (f i) × T (f j)
  count_two zero h = absurd (omega arith)
  count_two (suc n) h =
      ⊎_elim
      (λ t. let z : ◌≡◌ {A = ℕ} (cond (f n) 1 0) 1 = one_of (f n) t in let i = count_some n (omega (arith, z)) in (i.0, n, i.1, omega arith, i.2, t))
      (λ z. let w = count_two n (omega (arith, z)) in (w.0, w.1, w.2, omega (arith, w.3), w.4, w.5))
      (one_split (f n))

-- ---- the ones of a number

ones_more : (n k : ℕ) → ones (n % 2 ^ suc k) ≡ ones ((n / 2 ^ k) % 2) + ones (n % 2 ^ k)
ones_more n k =
    ap (λ j. ones (n % 2 ^ j)) (sym (one-add k)) ∙ ap ones (mod-pow-add n 1 k)
    ∙ ones_cat k ((n / 2 ^ k) % 2) (n % 2 ^ k) (mod_below n (2 ^ k) (pow_pos k))

ones_bit : (x : ℕ) → x < 2 → ones x ≡ cond (eqb x 1) 1 0
unfolding ones
ones_bit x h = ⊎_elim (λ e. rw e) (λ ne. let z : x ≡ 0 = omega arith in rw z) (cases_eq x 1)

ones_sum : (n k : ℕ) → ones (n % 2 ^ k) ≡ sum (λ o. cond (eqb ((n / 2 ^ o) % 2) 1) 1 0) k
unfolding ones
ones_sum n zero = ap ones (mod-one n)
ones_sum n (suc k) = let a = ones_more n k in let b = ones_bit ((n / 2 ^ k) % 2) (omega arith) in let c = ones_sum n k in omega (arith, a, b, c)

test_in : (b : List ℕ) (s o : ℕ) → o < 32 → opens b s o ≡ eqb ((get_or b s 0 / 2 ^ o) % 2) 1
unfolding opens
test_in b s o h = go (ltb o 32) (lt→ltb o 32 h) _
  where
    go : (t : Bool) → T t → (u : Bool) → (t && u) ≡ u
    go true h u = refl
    go false h u = absurd h

-- how many options of a slot are open: the ones of its cell
pub ones_opened : (b : List ℕ) (s : ℕ) → get_or b s 0 < 2 ^ 32 → ones (get_or b s 0) ≡ opened_at (opens b) s
ones_opened b s h =
    ap ones (sym (mod-eq_of_lt h)) ∙ ones_sum (get_or b s 0) 32
    ∙ sum_same (λ o. cond (eqb ((get_or b s 0 / 2 ^ o) % 2) 1) 1 0) (λ o. cond (opens b s o) 1 0) 32
    (λ o lt. ap (λ t. cond t 1 0) (sym (test_in b s o lt)))

-- a cell by itself
pub ones_alone : (n : ℕ) → n < 2 ^ 32 → ones n ≡ opened_at (opens (n ∷ [])) 0
ones_alone n h = ones_opened (n ∷ []) 0 h

abbrev pub of_cell : ℕ → ℕ
of_cell n = opened_at (opens (n ∷ [])) 0

same_slot : (b : List ℕ) (s : ℕ) → opened_at (opens (get_or b s 0 ∷ [])) 0 ≡ opened_at (opens b) s
unfolding opens
same_slot b s = refl

-- what the first cells open is what is open in the first slots
counted : (b : List ℕ) (n : ℕ) → n ≤ length b → sum_by of_cell (take n b) ≡ sum (opened_at (opens b)) n
counted b zero h = refl
counted b (suc n) h = omega (arith, rw add-one at (sum_by_more of_cell b n 0 (omega arith)), counted b n (omega arith), same_slot b n)

pub count_all : (b : List ℕ) → length b ≡ 48 → sum_by of_cell b ≡ opened (opens b)
unfolding opened
count_all b long = ap (sum_by of_cell) (sym (take_all 48 b (omega arith))) ∙ counted b 48 (omega arith)

-- ---- options found

two_ones : (b : List ℕ) (s : ℕ) → get_or b s 0 < 2 ^ 32 → 2 ≤ ones (get_or b s 0) → Two b s
two_ones b s h k =
    let w = count_two (opens b s) 32 (omega (arith, ones_opened b s h)) in
    record { one = w.0; other = w.1; apart = w.2; first = (opens_is b s w.0).0 w.4; second = (opens_is b s w.1).0 w.5 }

ones_two : (b : List ℕ) (s : ℕ) → get_or b s 0 < 2 ^ 32 → Two b s → 2 ≤ ones (get_or b s 0)
ones_two b s h w =
    omega (arith, ones_opened b s h, two_count (opens b s) 32 w.one w.other w.apart (open_low b s w.other w.second) ((opens_is b s w.one).1 w.first) ((opens_is b s w.other).1 w.second))

pub two_decided : (n : ℕ) → n < 2 ^ 32 → Decides (leb 2 (ones n)) (Two (n ∷ []) 0)
two_decided n h = (λ t. two_ones (n ∷ []) 0 h (leb-true 2 (ones n) t), λ w. le-leb 2 (ones n) (ones_two (n ∷ []) 0 h w))

two_there : (b : List ℕ) (s : ℕ) → Two (get_or b s 0 ∷ []) 0 → Two b s
unfolding Open
two_there b s w = record { one = w.one; other = w.other; apart = w.apart; first = w.first; second = w.second }

two_alone : (b : List ℕ) (s : ℕ) → Two b s → Two (get_or b s 0 ∷ []) 0
unfolding Open
two_alone b s w = record { one = w.one; other = w.other; apart = w.apart; first = w.first; second = w.second }

abbrev pub Several : ℕ → Type 0
Several n = Two (n ∷ []) 0

pub loose_is : (b : List ℕ) (r : Option ℕ) → length b ≡ 48
    → MatchOption r (AllWithin (λ n. Several n → ⊥) b 0 (length b)) (λ i. (i < length b) × HoldsAt Several b i × AllWithin (λ n. Several n → ⊥) b 0 i) → Loose b r
loose_is b None long none = λ t w. none t 0 (omega arith) (open_there b t w.one w.first) (two_alone b t w)
loose_is b (Given i) long h = record {
  small = omega (arith, h.0);
  two = two_there b i (h.1 0);
  fixed = λ t lt w. h.2 t 0 (omega arith) lt (two_alone b t w);
}

some_cell : (b : List ℕ) (s cell : ℕ) → cell ≡ get_or b s 0 → cell < 4294967296 → (cell ≡ 0 → ⊥) → Some b s
unfolding Open
some_cell b s cell e h ne =
    let w = Number.some_bit cell cell (omega arith) ne in
    record { option = w.0; is = (Number.small_bit 32 cell w.0 h w.1, subst (λ n. bit_at n w.0 ≡ 1) e w.1) }

no_cell : (b : List ℕ) (s cell : ℕ) → cell ≡ get_or b s 0 → cell ≡ 0 → Some b s → ⊥
unfolding Open
no_cell b s cell e z w = let k = Number.set_le (get_or b s 0) w.option w.is.1 in omega (arith, k, pow_pos w.option)

pub some_decided : (b : List ℕ) (s cell : ℕ) → cell ≡ get_or b s 0 → cell < 4294967296 → Decides (not (nat_eq cell 0)) (Some b s)
some_decided b s cell e h =
    (λ t. some_cell b s cell e h (eqb-false cell 0 (not-true _ t)), λ w. not_from_false _ (ne_eqb cell 0 (λ z. no_cell b s cell e z w)))

pub lowest_is : (b : List ℕ) (s cell : ℕ) (r : Option ℕ) → cell ≡ get_or b s 0 → cell < 4294967296 → r ≡ then_some (not (nat_eq cell 0)) (trailing_zeros w32 cell) → Lowest b s r
unfolding Open
lowest_is b s cell r e h is =
    let k = trailing_zeros w32 cell in
    ⊎_elim
    (λ z. subst (Lowest b s) (sym (is ∙ ap (λ t. then_some (not t) k) (eq-eqb cell 0 z))) (no_cell b s cell e z))
    (λ ne.
    let t = bit_at-trailing_zeros w32 cell (omega arith) h in
    let least : Least b s k = record {
      is = (t.0, subst (λ x. bit_at x k ≡ 1) e t.1);
      least = λ u o. ⊎_elim
          (λ lt. absurd (let z : ◌≡◌ {A = ℕ} 0 1 = sym (t.2 u lt) ∙ subst (λ x. bit_at x u ≡ 1) (sym e) o.1 in omega arith))
          (λ le. le)
          (cases_lt u k);
    } in
    subst (Lowest b s) (sym (is ∙ ap (λ t. then_some (not t) k) (ne_eqb cell 0 ne))) least)
    (cases_eq cell 0)

-- ---- masks

pub below_all : (n : ℕ) → 32 ≤ n → Below 4294967295 n
unfolding Bit
below_all n h = record { only = λ o b. let k = Number.small_bit 32 4294967295 o (omega arith) b in (omega arith, k); all = λ o k l. Number.ones_bit 32 o l }

pub below_some : (n m : ℕ) → n < 32 → m ≡ (1 * 2 ^ n) % 4294967296 - 1 → Below m n
unfolding Bit
below_some n m h e =
    let q : m ≡ 2 ^ n - 1 = e ∙ ap (λ k. k - 1) (one_shl n 32 h) in
    subst (λ k. Below k n) (sym q) (record {
      only = λ o b. let k = Number.small_bit n (2 ^ n - 1) o (omega (arith, pow_pos n)) b in (k, omega arith);
      all = λ o k l. Number.ones_bit n o k;
    })

-- ---- a box filled

pub filled : (sizes c : List ℕ) → length c ≡ 48 → ((s : ℕ) → s < 48 → Below (get_or c s 0) (get_or sizes s 0)) → Filled sizes c
unfolding Open Bit
filled sizes c long cells = record {
  real = λ s o h. let lt = open_there c s o h in ((cells s (omega arith)).only o h.1).0;
  all = λ s o hs ho lt. (ho, (cells s hs).all o lt ho);
}

-- ---- boxes compared

-- different numbers differ in a bit
differ_bit : (w x y : ℕ) → x < 2 ^ w → y < 2 ^ w → (x ≡ y → ⊥) → (o : ℕ) × (o < w) × ((x / 2 ^ o) % 2 ≡ (y / 2 ^ o) % 2 → ⊥)
differ_bit w x y hx hy ne =
    let same : bit_xor x y ≡ 0 → (i : ℕ) → bit_at x i ≡ bit_at y i = λ z i.
    let e : (bit_at x i + bit_at y i) % 2 ≡ 0 = sym (bit_at_xor x y i) ∙ ap (λ n. bit_at n i) z ∙ bit_at-zero i in
    omega (arith, e, bit_at-lt x i, bit_at-lt y i) in
    let k = Number.some_bit (bit_xor x y) (bit_xor x y) (omega arith) (λ z. ne (same_from_bits x y (same z))) in
    let d = bit_at_xor x y k.0 in
    (k.0, Number.small_bit w (bit_xor x y) k.0 (xor_lt w x y hx hy) k.1, λ e. omega (arith, d, k.1, e))

-- equal tests of two bits mean equal bits
bits_from : (x y : ℕ) → x < 2 → y < 2 → eqb x 1 ≡ eqb y 1 → x ≡ y
bits_from x y hx hy e = grind (arith, nat_tests)

differ_at : (b c : List ℕ) (s : ℕ) → s < 48 → get_or b s 0 < 2 ^ 32 → get_or c s 0 < 2 ^ 32 → (get_or b s 0 ≡ get_or c s 0 → ⊥) → Differ b c
differ_at b c s h hb hc ne =
    let w = differ_bit 32 (get_or b s 0) (get_or c s 0) hb hc ne in
    record {
      slot = s;
      option = w.0;
      there = (h, w.1);
      apart = λ e. w.2 (bits_from _ _ (omega arith) (omega arith) (sym (test_in b s w.0 w.1) ∙ e ∙ test_in c s w.0 w.1));
    }

pub differ_there : (b c : List ℕ) (s : ℕ) → s < 48 → get_or b s 0 < 2 ^ 32 → get_or c s 0 < 2 ^ 32 → (get_or b s 0 ≡ get_or c s 0 → ⊥) → (d : Differ b c) × (d.slot ≡ s)
unfolding differ_at
differ_there b c s h hb hc ne = (differ_at b c s h hb hc ne, refl)

-- what is open in a smaller box is fewer
sum_le : (f g : ℕ → ℕ) (n : ℕ) → ((i : ℕ) → f i ≤ g i) → sum f n ≤ sum g n
sum_le f g zero h = omega arith
sum_le f g (suc n) h = omega (arith, sum_le f g n h, h n)

sum_lt : (f g : ℕ → ℕ) (n k : ℕ) → k < n → ((i : ℕ) → f i ≤ g i) → f k < g k → sum f n < sum g n
sum_lt f g zero k h le lt = absurd (omega arith)
sum_lt f g (suc n) k h le lt =
    ⊎_elim
    (λ e. let lt' : f n < g n = subst (λ i. f i < g i) e lt in omega (arith, sum_le f g n le))
    (λ ne. omega (arith, sum_lt f g n k (omega arith) le lt, le n))
    (cases_eq k n)

one_le : (s t : Bool) → (T s → T t) → ◌≤◌ (cond s 1 0) (cond t 1 0)
one_le true false h = absurd (h tt)
one_le true true h = omega arith
one_le false t h = omega arith

one_lt : (s t : Bool) → (T s → ⊥) → T t → ◌<◌ (cond s 1 0) (cond t 1 0)
one_lt true t h k = absurd (h tt)
one_lt false true h k = omega arith
one_lt false false h k = absurd k

pub opened_lt : (X Y : Box) (s o : ℕ) → Inside X Y → s < 48 → o < 32 → (T (X s o) → ⊥) → T (Y s o) → opened X < opened Y
unfolding opened
opened_lt X Y s o sub hs ho no' yes' =
    sum_lt (opened_at X) (opened_at Y) 48 s hs
    (λ t. sum_le (λ p. cond (X t p) 1 0) (λ p. cond (Y t p) 1 0) 32 (λ p. one_le (X t p) (Y t p) (sub t p)))
    (sum_lt (λ p. cond (X s p) 1 0) (λ p. cond (Y s p) 1 0) 32 o ho (λ p. one_le (X s p) (Y s p) (sub s p)) (one_lt (X s o) (Y s o) no' yes'))

-- two tests that differ, where the first implies the second
opens_one : (t u : Bool) → (t ≡ u → ⊥) → (T t → T u) → (T t → ⊥) × T u
opens_one true true ne h = absurd (ne refl)
opens_one true false ne h = absurd (h tt)
opens_one false true ne h = (λ t. t, tt)
opens_one false false ne h = absurd (ne refl)

-- a box within another that differs from it opens fewer options
pub differ_less : (b c : List ℕ) → Within c b → Differ c b → opened (opens c) < opened (opens b)
differ_less b c less d =
    let sub : Inside (opens c) (opens b) = λ s o t. (opens_is b s o).1 (less s o ((opens_is c s o).0 t)) in
    let one = opens_one (opens c d.slot d.option) (opens b d.slot d.option) d.apart (sub d.slot d.option) in
    opened_lt (opens c) (opens b) d.slot d.option sub d.there.0 d.there.1 one.0 one.1
