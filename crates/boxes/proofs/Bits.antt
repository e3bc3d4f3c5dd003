-- The bits of cells and masks, and what is open after a cell is written. Assumes nothing.
use Rattle.std.proofs.Common.{◌≡◌, ℕ, ◌-◌, ◌*◌, ◌/◌, ◌%◌, ◌^◌, ◌<◌, ◌≤◌, not, nat_eq, bit_and, bit_or, List, length, get_or, set, replicate, Decides, sym, refl, ap, ◌∙◌, subst, ⊎_elim, arith, get_or-set_other, get_or-set_same}
use Rattle.std.specs.Int.{bit_not, w32}
use Rattle.std.proofs.lemmas.Nat.{pow_pos, one_shl}
use Rattle.std.proofs.lemmas.Nat.Bits.{bit_at-pow_same, bit_at-pow_other, bit_at_and, bit_at_or, bit_at_not, bit_at-zero, bit_at-lt}
use Rattle.std.proofs.lemmas.List.{get_or_past, get_or-replicate}
use Rattle.std.proofs.lemmas.Bool.{cases_eq, cases_lt, eqb-false, ne_eqb, not-true, not_from_false}
use Rattle.subject.proofs.Bits as Number
use Rattle.boxes.specs.Boxes.{Open, Closed, Opened, Restricted, Fixed, Bit, Single}

-- bit k of a number
abbrev pub bit : ℕ → ℕ → ℕ
bit n k = (n / 2 ^ k) % 2

-- a power of two has one bit
pub bit_here : (o : ℕ) → bit (2 ^ o) o ≡ 1
bit_here o = bit_at-pow_same o

pub bit_other : (o k : ℕ) → (k ≡ o → ⊥) → bit (2 ^ o) k ≡ 0
bit_other o k ne = bit_at-pow_other o k ne

-- what is open is an option of a slot
pub open_low : (b : List ℕ) (s o : ℕ) → Open b s o → o < 32
unfolding Open
open_low b s o h = h.0

pub open_there : (b : List ℕ) (s o : ℕ) → Open b s o → s < length b
unfolding Open
open_there b s o h =
    ⊎_elim
    (λ lt. lt)
    (λ past.
    let z : bit (get_or b s 0) o ≡ 0 = ap (λ n. bit n o) (get_or_past b s 0 past) ∙ bit_at-zero o in
    absurd (let y : ◌≡◌ {A = ℕ} 0 1 = sym z ∙ h.1 in omega arith))
    (cases_lt s (length b))

-- nothing is open past the last slot
pub shut_past : (b : List ℕ) (s o : ℕ) → length b ≤ s → Open b s o → ⊥
shut_past b s o past h = let lt = open_there b s o h in omega arith

-- other slots are as they were where their cells are
pub open_same : (b c : List ℕ) (s o : ℕ) → get_or c s 0 ≡ get_or b s 0 → Open b s o → Open c s o
unfolding Open
open_same b c s o e h = (h.0, ap (λ n. bit n o) e ∙ h.1)

pub none_open : (s o : ℕ) → Open (replicate 48 0) s o → ⊥
unfolding Open
none_open s o h =
    ⊎_elim
    (λ lt.
    let z : bit (get_or (replicate 48 0) s 0) o ≡ 0 = ap (λ n. bit n o) (get_or-replicate 48 s 0 0 lt) ∙ bit_at-zero o in
    let y : ◌≡◌ {A = ℕ} 0 1 = sym z ∙ h.1 in omega arith)
    (λ past. shut_past (replicate 48 0) s o past h)
    (cases_lt s 48)

-- ---- masks of one option

pub single_bit : (o : ℕ) → o < 32 → Single ((1 * 2 ^ o) % 4294967296) o
unfolding Bit
single_bit o h =
    subst (λ m. Single m o) (sym (one_shl o 32 h)) (record {
      only = λ u b. let e = (Number.one_bit o u).0 b in (e, omega (arith, e));
      here = λ _. (Number.one_bit o o).1 refl;
    })

pub single_none : (o : ℕ) → 32 ≤ o → Single 0 o
unfolding Bit
single_none o h = record { only = λ u b. absurd (let y : ◌≡◌ {A = ℕ} 0 1 = sym (bit_at-zero u) ∙ b in omega arith); here = λ k. absurd (omega arith) }

-- a cell shares a bit with the mask of one option exactly where that option is open
pub tested : (b : List ℕ) (s o cell mask : ℕ) → cell ≡ get_or b s 0 → Single mask o → Decides (not (nat_eq (bit_and cell mask) 0)) (Open b s o)
unfolding Open Bit
tested b s o cell mask e one = (
  λ t.
      let ne = eqb-false (bit_and cell mask) 0 (not-true _ t) in
      let w = Number.some_bit (bit_and cell mask) (bit_and cell mask) (omega arith) ne in
      let both = bit_at_and cell mask w.0 in
      let m : bit mask w.0 ≡ 1 = omega (arith, w.1, both) in
      let c : bit cell w.0 ≡ 1 = omega (arith, w.1, both) in
      let k = one.only w.0 m in
      (omega (arith, k.0, k.1), subst (λ n. bit n o ≡ 1) e (subst (λ u. bit cell u ≡ 1) k.0 c)),
  λ h.
      let c : bit cell o ≡ 1 = subst (λ n. bit n o ≡ 1) (sym e) h.1 in
      let m : bit mask o ≡ 1 = one.here h.0 in
      let x : bit (bit_and cell mask) o ≡ 1 = omega (arith, bit_at_and cell mask o, c, m) in
      not_from_false _ (ne_eqb _ 0 (λ z. let le = Number.set_le (bit_and cell mask) o x in omega (arith, pow_pos o, le, z))),
)

-- ---- a cell written

module _ (b : List ℕ) (s n : ℕ) (lt : s < length b) where
  written : (u : ℕ) → Open (set b s n) s u → (u < 32) × (bit n u ≡ 1)
  unfolding Open
  written u h = (h.0, subst (λ x. bit x u ≡ 1) (get_or-set_same b s n 0 lt) h.1)

  write : (u : ℕ) → u < 32 → bit n u ≡ 1 → Open (set b s n) s u
  unfolding Open
  write u k h = (k, subst (λ x. bit x u ≡ 1) (sym (get_or-set_same b s n 0 lt)) h)

  rest : (t : ℕ) → (t ≡ s → ⊥) → get_or (set b s n) t 0 ≡ get_or b t 0
  rest t ne = get_or-set_other b s t n 0 ne

  -- what is open after it, slot by slot
  after : (X : ℕ → ℕ → Type 0) → ((u : ℕ) → u < 32 → bit n u ≡ 1 → X s u) → ((t u : ℕ) → (t ≡ s → ⊥) → Open b t u → X t u) → (t u : ℕ) → Open (set b s n) t u → X t u
  after X f g t u h =
      ⊎_elim
      (λ e. let w = written u (subst (λ v. Open (set b s n) v u) e h) in subst (λ v. X v u) (sym e) (f u w.0 w.1))
      (λ ne. g t u ne (open_same (set b s n) b t u (sym (rest t ne)) h))
      (cases_eq t s)

  before : (X : ℕ → ℕ → Type 0) → ((u : ℕ) → X s u → Open b s u → (u < 32) × (bit n u ≡ 1)) → (t u : ℕ) → X t u → Open b t u → Open (set b s n) t u
  before X f t u x h =
      ⊎_elim
      (λ e.
      let w = f u (subst (λ v. X v u) e x) (subst (λ v. Open b v u) e h) in
      subst (λ v. Open (set b s n) v u) (sym e) (write u w.0 w.1))
      (λ ne. open_same b (set b s n) t u (rest t ne) h)
      (cases_eq t s)

pub opened : (b : List ℕ) (s o mask : ℕ) → length b ≡ 48 → s < 48 → Single mask o → Opened b (set b s (bit_or (get_or b s 0) mask)) s o
unfolding Open Bit
opened b s o mask long low one =
    let n = bit_or (get_or b s 0) mask in
    let lt : s < length b = omega arith in
    record {
      here = λ _ k. write b s n lt o k (omega (arith, bit_at_or (get_or b s 0) mask o, one.here k, bit_at-lt (get_or b s 0) o));
      less = λ t u ne h.
          after b s n lt (λ v w. ((v ≡ s) × (w ≡ o) → ⊥) → Open b v w)
          (λ w k e f. ⊎_elim
          (λ x. (k, x))
          (λ x. let m : bit mask w ≡ 1 = omega (arith, bit_at_or (get_or b s 0) mask w, e, x, bit_at-lt (get_or b s 0) w, bit_at-lt mask w) in absurd (f (refl, (one.only w m).0)))
          (cases_eq (bit (get_or b s 0) w) 1))
          (λ v w _ k _. k)
          t u h ne;
      more = λ t u h.
          before b s n lt (λ _ _. Unit {0}) (λ w _ k. (k.0, omega (arith, bit_at_or (get_or b s 0) mask w, k.1, bit_at-lt mask w))) t u tt h;
      rest = rest b s n lt;
    }

pub opened_past : (b : List ℕ) (s o : ℕ) → 48 ≤ s → Opened b b s o
opened_past b s o past = record { here = λ l _. absurd (omega arith); less = λ t u ne h. h; more = λ t u h. h; rest = λ t ne. refl }

pub restricted : (b : List ℕ) (s mask : ℕ) → length b ≡ 48 → s < 48 → Restricted b (set b s (bit_and (get_or b s 0) mask)) s mask
unfolding Open Bit
restricted b s mask long low =
    let n = bit_and (get_or b s 0) mask in
    let lt : s < length b = omega arith in
    record {
      less = λ t u h.
          after b s n lt (Open b) (λ w k e. (k, omega (arith, bit_at_and (get_or b s 0) mask w, e, bit_at-lt (get_or b s 0) w))) (λ v w _ k. k) t u h;
      masked = λ u h. let w = written b s n lt u h in omega (arith, bit_at_and (get_or b s 0) mask u, w.1, bit_at-lt mask u);
      more = λ u h k. write b s n lt u h.0 (omega (arith, bit_at_and (get_or b s 0) mask u, h.1, k));
      rest = rest b s n lt;
    }

pub restricted_past : (b : List ℕ) (s mask : ℕ) → length b ≡ 48 → 48 ≤ s → Restricted b b s mask
restricted_past b s mask long past =
    record { less = λ t o h. h; masked = λ o h. absurd (shut_past b s o (omega arith) h); more = λ o h k. h; rest = λ t ne. refl }

-- ---- all but one option closed, and one option closed

pub fixed : (b c : List ℕ) (s o mask : ℕ) → Single mask o → Restricted b c s mask → Fixed b c s o
fixed b c s o mask one r = record { less = r.less; alone = λ u h. (one.only u (r.masked u h)).0; here = λ h. r.more o h (one.here (open_low b s o h)); rest = r.rest }

pub closed : (b c : List ℕ) (s o mask : ℕ) → mask < 4294967296 → Single mask o → Restricted b c s (bit_not w32 mask) → Closed b c s o
unfolding Bit
closed b c s o mask fits one r =
    let flip : (u : ℕ) → u < 32 → bit (bit_not w32 mask) u ≡ 1 - bit mask u = λ u k. bit_at_not w32 mask u fits k in
    record {
      here = λ h.
          let k = open_low c s o h in
          let m : bit (bit_not w32 mask) o ≡ 1 = r.masked o h in
          omega (arith, flip o k, m, one.here k);
      less = r.less;
      more = λ t u ne h. ⊎_elim
          (λ e.
          let k = open_low b t u h in
          let off : bit mask u ≡ 1 → ⊥ = λ m. ne (e, (one.only u m).0) in
          subst (λ v. Open c v u) (sym e) (r.more u (subst (λ v. Open b v u) e h) (omega (arith, flip u k, off, bit_at-lt mask u))))
          (λ apart. open_same b c t u (r.rest t apart) h)
          (cases_eq t s);
      rest = r.rest;
    }
