-- The least weight of the options of a cell. Assumes nothing.
use Rattle.std.proofs.Common.{◌≡◌, ℕ, zero, suc, ◌<◌, true, false, List, [], ◌∷◌, length, map, get_or, ℤ, pos, ◌≤ℤ◌, ◌<ℤ◌, Some, None, Option, Less, Equal, Greater, Ordering, sym, refl, ◌∙◌, ap, subst, ⊎_elim, arith}
use Rattle.std.specs.Prelude.{MatchOption, IfSome, IsSomeAnd}
use Rattle.std.specs.Option.{option_map}
use Rattle.std.specs.Ordering.{int_cmp, is_lt, MatchOrdering}
use Rattle.std.specs.Iterator.{Yields}
use Rattle.std.specs.Iterator.Runs.{Run, YieldsRun, AnyItem, AllItems}
use Rattle.std.proofs.lemmas.Bool.{cases_eq, false≢true}
use Rattle.std.proofs.lemmas.Cmp.{int_ranked}
use Rattle.std.proofs.lemmas.Int.{ints}
use Rattle.std.proofs.lemmas.Option.{IfSome_then}
use Rattle.std.proofs.lemmas.List.{get_or-map, length-map}
use Rattle.boxes.specs.Boxes.{Open, Bit}
use Rattle.load.specs.Weights.{OpenIn, PeelsOff, Small, LowestOf}
use Rattle.load.proofs.Bitwise.{top_bit, was_there, is_left, no_bit}

-- what is open has its bit, and the other way
pub bit_open : (cell o : ℕ) → OpenIn cell o → Bit cell o
unfolding Open Bit
bit_open cell o h = h.1

pub open_small : (cell o : ℕ) → OpenIn cell o → o < 32
unfolding Open
open_small cell o h = h.0

pub open_bit : (cell o : ℕ) → o < 32 → Bit cell o → OpenIn cell o
unfolding Open Bit
open_bit cell o l h = (l, h)

-- these are the open options of a cell
pub record Listed (cell : ℕ) (options : List ℕ) : Type 0 where
  pub each : (k : ℕ) → k < length options → OpenIn cell (get_or options k 0)
  pub all : (o : ℕ) → OpenIn cell o → (k : ℕ) × (k < length options) × (get_or options k 0 ≡ o)

-- calls that peel off one option after another, until none is left, give them all
module _ {S : Type 0} (left : S → ℕ) where
  abbrev pub peels : S → Option ℕ → S → Type 0
  peels s r t = PeelsOff (left s) r (left t)

  pub listed : (s t u : S) (options : List ℕ) → Yields peels s options t → peels t None u → Listed (left s) options
  listed s t u [] y e =
      let none : left s ≡ 0 = ap left y ∙ e.0 in
      record { each = λ k h. absurd (omega arith); all = λ o h. absurd (no_bit o (subst (λ n. Bit n o) none (bit_open (left s) o h))) }
  listed s t u (o ∷ options) y e =
      let (j, step, more) = y in
      let rest = listed j t u options more e in
      record {
        each = λ k h. elim k as (λ i. i < suc (length options) → OpenIn (left s) (get_or (o ∷ options) i 0)) [
          | zero ↦ λ h. open_bit (left s) o step.highest.small (top_bit (left s) o (left j) step)
          | suc i ↦ λ h. let was = rest.each i (omega arith) in open_bit (left s) (get_or options i 0) (open_small (left j) (get_or options i 0) was) (was_there (left s) o (left j) step (get_or options i 0) (bit_open (left j) (get_or options i 0) was))
        ] h;
        all = λ p h. ⊎_elim
            (λ (same : p ≡ o). (0, omega arith, sym same))
            (λ (ne : p ≡ o → ⊥). let (k, lt, is) = rest.all p (open_bit (left j) p (open_small (left s) p h) (is_left (left s) o (left j) step p ne (bit_open (left s) p h))) in (suc k, omega arith, is))
            (cases_eq p o);
      }

some_one : {A : Type 0} (o : Option A) (P : A → Type 0) → IsSomeAnd o P → (x : A) × P x
some_one None P h = absurd h
some_one (Some x) P h = (x, h)

module _ {S A : Type 0} {steps : S → Option A → S → Type 0} (p : Run steps) where
  -- what holds of the item at a place holds of that of the list
  item_of : (k : ℕ) (d : A) (P : A → Type 0) → k < p.len → IfSome (p.at k) P → P (get_or p.items k d)
  item_of k d P h = go (p.at k) (p.reads k d h)
    where
      go : (o : Option A) → option_map (λ y. y) o ≡ Some (get_or p.items k d) → IfSome o P → P (get_or p.items k d)
      go None e f = cc
      go (Some x) e f = let same : x ≡ get_or p.items k d = cc in subst P same f

  some_of : (k : ℕ) (d : A) (P : A → Type 0) → k < p.len → IsSomeAnd (p.at k) P → P (get_or p.items k d)
  some_of k d P h = go (p.at k) (p.reads k d h)
    where
      go : (o : Option A) → option_map (λ y. y) o ≡ Some (get_or p.items k d) → IsSomeAnd o P → P (get_or p.items k d)
      go None e f = absurd f
      go (Some x) e f = let same : x ≡ get_or p.items k d = cc in subst P same f

  -- what holds of both items at a place, of a run and of the one that it was made from
  pub each_of : {T B : Type 0} {source : T → Option B → T → Type 0} (q : Run source) (R : A → B → Type 0) (P : A → Type 0) → ((x : A) (y : B) → R x y → P x) → ((k : ℕ) → IfSome (p.at k) (λ x. IsSomeAnd (q.at k) (R x))) → AllItems p P
  each_of q R P then each k = IfSome_then (p.at k) (each k) (λ x h. let (y, r) = some_one (q.at k) (R x) h in then x y r)

  -- the calls of a whole run
  pub run_of : p.whole ≡ true → (t : S) × Yields steps p.from p.items t × ((u : S) × steps t None u)
  unfolding YieldsRun
  run_of e = let (t, gave, ended) = p.gave.0 in (t, gave, ended e)

not_less : (x m : ℤ) → is_lt (int_cmp x m) ≡ false → m ≤ℤ x
not_less x m = go (int_cmp x m) (int_ranked x m (int_cmp x m) refl)
  where
    go : (o : Ordering) → MatchOrdering o (x <ℤ m) (x ≡ m) (m <ℤ x) → is_lt o ≡ false → m ≤ℤ x
    go Less h e = absurd (false≢true (sym e))
    go Equal h e = omega (arith, ints)
    go Greater h e = omega (arith, ints)

-- the answer of `min` on the weights of the options of a cell
module _ {S : Type 0} {steps : S → Option ℤ → S → Type 0} (p : Run steps) (cell : ℕ) (f : ℕ → ℤ) (options : List ℕ) (is : p.items ≡ map f options) (listed : Listed cell options) (small : AllItems p Small) where
  as_many : p.len ≡ length options
  as_many = p.long ∙ ap length is ∙ simp length-map

  weight_at : (k : ℕ) → k < p.len → get_or p.items k (pos 0) ≡ f (get_or options k 0)
  weight_at k h = ap (λ l. get_or l k (pos 0)) is ∙ get_or-map f options k 0 (pos 0) (omega (arith, as_many))

  pub lowest_of : (r : Option ℤ) → MatchOption r (p.len ≡ 0) (λ m. AnyItem p (λ x. x ≡ m) × AllItems p (λ x. is_lt (int_cmp x m) ≡ false)) → LowestOf (OpenIn cell) f r
  lowest_of None none = λ o h. let (k, lt, e) = listed.all o h in absurd (omega (arith, as_many))
  lowest_of (Some m) answer =
      let (k, lt, here) = answer.0 in
      let e : f (get_or options k 0) ≡ m = sym (weight_at k lt) ∙ some_of p k (pos 0) (λ x. x ≡ m) lt here in
      let under : (o : ℕ) → OpenIn cell o → m ≤ℤ f o = λ o h.
      let (j, there, same) = listed.all o h in
      let less : j < p.len = omega (arith, as_many) in
      subst (λ z. m ≤ℤ z) (weight_at j less ∙ ap f same) (not_less (get_or p.items j (pos 0)) m (item_of p j (pos 0) (λ x. is_lt (int_cmp x m) ≡ false) less (answer.1 j))) in
      record {
        small = subst Small (some_of p k (pos 0) (λ x. x ≡ m) lt here) (item_of p k (pos 0) Small lt (small k));
        least = record { at = get_or options k 0; allowed = listed.each k (omega (arith, as_many)); is = e; least = under };
      }
