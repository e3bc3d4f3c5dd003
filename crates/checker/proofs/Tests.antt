-- The tests of the program are those of the definitions. Assumes nothing.
use Rattle.std.proofs.Common.{◌≡◌, ℕ, zero, suc, ◌+◌, ◌-◌, ◌*◌, ◌<◌, ◌≤◌, Bool, true, false, not, ◌&&◌, ◌||◌, eqb, ltb, List, [], ◌∷◌, length, get_or, take, drop, sym, refl, ap, ◌∙◌, mul-zero, mul-suc, arith}
use Rattle.std.specs.List.{list_all, list_any, zip, starts_with}
use Rattle.std.specs.declared.slice.ChunksExact.{ChunksExact}
use Rattle.std.specs.Iterator.{AlwaysYields}
use Rattle.std.proofs.lemmas.Iterator.{YieldsList}
use Rattle.std.specs.Slice.Iter.{chunks_exact_steps, chunks_exact_size, chunks_exact_rest}
use lib.Pointwise.{pointwise}
use Rattle.std.proofs.lemmas.List.{drop-drop, drop-take, take-take, take_at, drop_at, length-drop, length-append}
use Rattle.std.proofs.lemmas.Bool.{and_parts}
use Rattle.std.proofs.lemmas.Bool.Decides.{nat_tests}
use Rattle.catalogue.specs.Checks.{all, unused, has, same, has_list, well_scoped, well_filled}
use Rattle.checker.specs.Model.{parts_from}

pub all_is : (p : ℕ → Bool) (xs : List ℕ) → list_all p xs ≡ all p xs
all_is p [] = refl
all_is p (x ∷ xs) = ap (λ b. p x && b) (all_is p xs)

pub has_is : (x : ℕ) (xs : List ℕ) → list_any (λ y. eqb y x) xs ≡ has x xs
has_is x [] = refl
has_is x (y ∷ xs) = let e = has_is x xs in grind (arith, nat_tests)

-- a scope by its first slot and the others
module _ (n x : ℕ) (xs left : List ℕ) (w : Bool) (is : left ≡ x ∷ xs) (all-of : well_scoped n left ≡ w) where
  scoped_here : (ltb x n && (not (has x xs) && well_scoped n xs)) ≡ w
  scoped_here = ap (well_scoped n) (sym is) ∙ all-of

  pub scoped_out : n ≤ x → false ≡ w
  scoped_out h = let e = scoped_here in grind (arith, nat_tests)

  module _ (r : Bool) (named : r ≡ list_any (λ y. eqb y x) xs) where
    pub scoped_twice : r ≡ true → false ≡ w
    scoped_twice t = let e = scoped_here in let f : has x xs ≡ true = sym (has_is x xs) ∙ sym named ∙ t in grind (arith, nat_tests)

    pub scoped_on : x < n → r ≡ false → well_scoped n xs ≡ w
    scoped_on h t = let e = scoped_here in let f : has x xs ≡ false = sym (has_is x xs) ∙ sym named ∙ t in grind (arith, nat_tests)

-- a row that is filled has a byte for each slot
pub filled_long : (os ss xs : List ℕ) → well_filled os ss xs ≡ true → length ss ≤ length xs
filled_long os [] xs e = omega arith
filled_long os (s ∷ ss) [] e = let z : ◌≡◌ {A = ℕ} 0 1 = cc in absurd (omega arith)
filled_long os (s ∷ ss) (x ∷ xs) e = omega (arith, filled_long os ss xs (and_parts _ _ e).1)

pub filled_short : (os ss xs : List ℕ) → length xs < length ss → well_filled os ss xs ≡ false
filled_short os ss xs h = by (well_filled os ss xs) refl
  where
    by : (b : Bool) → well_filled os ss xs ≡ b → well_filled os ss xs ≡ false
    by true e = absurd (let l = filled_long os ss xs e in omega arith)
    by false e = e

-- a row is filled where each of its fields is an option of its slot, and the rest is not used
abbrev pub fits_slot : List ℕ → ℕ × ℕ → Bool
fits_slot os p = ltb p.1 (get_or os p.0 0)

pub filled_is : (os ss xs : List ℕ) → length ss ≤ length xs → (list_all (fits_slot os) (zip ss (take (length ss) xs)) && all unused (drop (length ss) xs)) ≡ well_filled os ss xs
filled_is os [] xs h = refl
filled_is os (s ∷ ss) [] h = absurd (omega arith)
filled_is os (s ∷ ss) (x ∷ xs) h = and_assoc (fits_slot os (s, x)) _ _ ∙ ap (λ b. fits_slot os (s, x) && b) (filled_is os ss xs (omega arith))
  where
    and_assoc : (a b c : Bool) → ((a && b) && c) ≡ (a && (b && c))
    and_assoc true b c = refl
    and_assoc false b c = refl

module _ (os ss xs : List ℕ) (long : length ss ≤ length xs) (r : Bool) (all-fit : r ≡ list_all (fits_slot os) (zip ss (take (length ss) xs))) where
  whole : (b : Bool) → r ≡ b → (b && all unused (drop (length ss) xs)) ≡ well_filled os ss xs
  whole b t = ap (λ c. c && all unused (drop (length ss) xs)) (sym t ∙ all-fit) ∙ filled_is os ss xs long

  pub filled_then : (u : Bool) → r ≡ true → u ≡ all unused (drop (length ss) xs) → u ≡ well_filled os ss xs
  filled_then u t e = e ∙ whole true t

  pub filled_else : r ≡ false → r ≡ well_filled os ss xs
  filled_else t = t ∙ whole false t

-- the records of one size that bytes hold
abbrev pub records : ℕ → ℕ → List ℕ → List (List ℕ)
records size zero xs = []
records size (suc n) xs = take size xs ∷ records size n (drop size xs)

-- chunks of that size are those records
pub chunks_yield : (size n : ℕ) (s : ChunksExact ℕ) (xs : List ℕ) → 0 < size → chunks_exact_size s ≡ size → chunks_exact_rest s ≡ xs → length xs ≡ size * n → YieldsList chunks_exact_steps (λ x. x.now) s (records size n xs)
chunks_yield size n s xs some e f l = record { runs = each n s xs e f l }
  where
    each : (n : ℕ) (s : ChunksExact ℕ) (xs : List ℕ) → chunks_exact_size s ≡ size → chunks_exact_rest s ≡ xs → length xs ≡ size * n → AlwaysYields chunks_exact_steps (λ x. x.now) s (records size n xs)
    each zero s xs e f l = λ x j g.
        omega (arith, ap length (sym f ∙ g.1.0), length-append x.now (chunks_exact_rest j), g.1.1, e, some, mul-zero size)
    each (suc n) s xs e f l = (
      (λ j g. omega (arith, g.1.0, ap length f, e, mul-suc size n)),
      λ x j g.
          let parts = sym f ∙ g.1.0 in
          let long = g.1.1 ∙ e in
          let rest : drop size xs ≡ chunks_exact_rest j = ap (drop size) parts ∙ drop_at x.now (chunks_exact_rest j) size long in
          (sym (ap (take size) parts ∙ take_at x.now (chunks_exact_rest j) size long), each n j (drop size xs) (g.0 ∙ e) (sym rest) (omega (arith, length-drop size xs, mul-suc size n))),
    )

-- a record that has the key behind its byte of kind
abbrev pub keyed : List ℕ → List ℕ → Bool
keyed key xs = starts_with eqb (drop 1 xs) key

same_is : (xs ys : List ℕ) → pointwise eqb xs ys ≡ same xs ys
same_is [] [] = refl
same_is [] (y ∷ ys) = refl
same_is (x ∷ xs) [] = refl
same_is (x ∷ xs) (y ∷ ys) = ap (λ b. eqb x y && b) (same_is xs ys)

-- the search among the records from a place on is that among their keys
pub stood_from : (bs key : List ℕ) (size n from : ℕ) → length key < size → list_any (keyed key) (records size n (take (size * n) (drop from bs))) ≡ has_list key (parts_from bs (length key) size from n)
stood_from bs key size zero from short = refl
stood_from bs key size (suc n) from short =
    let all = take (size * suc n) (drop from bs) in
    let more : size * suc n ≡ size + size * n = omega (arith, mul-suc size n) in
    let one : size ≡ 1 + (size - 1) = omega arith in
    let first : take size all ≡ take size (drop from bs) = take-take size (size * suc n) (drop from bs) (omega arith) in
    let behind : take (length key) (drop 1 (take size (drop from bs))) ≡ take (length key) (drop (from + 1) bs) = ap (λ k. take (length key) (drop 1 (take k (drop from bs)))) one ∙ ap (take (length key)) (drop-take 1 (size - 1) (drop from bs)) ∙ take-take (length key) (size - 1) (drop 1 (drop from bs)) (omega arith) ∙ ap (take (length key)) (drop-drop 1 from bs) in
    let others : drop size all ≡ take (size * n) (drop (from + size) bs) = ap (λ k. drop size (take k (drop from bs))) more ∙ drop-take size (size * n) (drop from bs) ∙ ap (take (size * n)) (drop-drop size from bs) in
    ap (λ xs. keyed key xs || list_any (keyed key) (records size n (drop size all))) first
    ∙ ap (λ ys. pointwise eqb key ys || list_any (keyed key) (records size n (drop size all))) behind
    ∙ ap (λ b. b || list_any (keyed key) (records size n (drop size all))) (same_is key (take (length key) (drop (from + 1) bs)))
    ∙ ap (λ xs. same key (take (length key) (drop (from + 1) bs)) || list_any (keyed key) (records size n xs)) others
    ∙ ap (λ b. same key (take (length key) (drop (from + 1) bs)) || b) (stood_from bs key size n (from + size) short)
