-- What is sound passes its tests: scopes, rows, weights and signed numbers, as they are written. Assumes nothing.
use Rattle.std.proofs.Common.{◌≡◌, ℕ, zero, suc, ◌+◌, ◌-◌, ◌*◌, ◌/◌, ◌%◌, ◌<◌, ◌≤◌, true, false, List, [], ◌∷◌, ◌++◌, length, get_or, take, drop, replicate, ℤ, pos, negsuc, ◌≤ℤ◌, sym, refl, ap, ◌∙◌, subst, append_assoc, one-add, arith, w16, w32, SFits, to_z, of_z, rules}
use lib.Signed.{lt_z}
use Rattle.std.specs.List.{AllByRecursion}
use Rattle.std.proofs.lemmas.Slice.Eq.{compares_Decides}
use Rattle.std.proofs.lemmas.List.{length-append, length-replicate, take_at, drop_at}
use Rattle.std.proofs.lemmas.Int.{ints, to_z-of_z}
use Rattle.std.proofs.lemmas.Bool.{lt-ltb, le-leb, ne_eqb, and_from, or_from, not-true, not_from_false}
use Rattle.std.proofs.lemmas.Bool.Decides.{Decides-not}
use Rattle.catalogue.specs.Content.{Weight, Apart, GoodRow, GoodWeight, place, places}
use Rattle.catalogue.specs.Writing.{padded, two_bytes, four_bytes}
use Rattle.catalogue.specs.Checks.{all, has, same, has_list, unused, scope_of, well_sized, well_scoped, well_filled, signed_two, signed_four, weight_of, well_weighed}

-- signed numbers come back from their bytes
small_fits : (z : ℤ) → negsuc 29999 ≤ℤ z → z ≤ℤ pos 30000 → SFits w16 z
small_fits (pos n) low high = record { sfits = omega (arith, ints) }
small_fits (negsuc n) low high = record { sfits = omega (arith, ints) }

two_back : (z : ℤ) → SFits w16 z → signed_two (two_bytes z) ≡ z
two_back z f =
    let n = of_z w16 z in
    let e : n % 256 + n / 256 * 256 ≡ n = omega arith in
    ap (to_z w16) e ∙ to_z-of_z w16 z f

pub four_back : (z : ℤ) → SFits w32 z → signed_four (four_bytes z) ≡ z
four_back z f =
    let n = of_z w32 z in
    let e : n % 256 + n / 256 % 256 * 256 + n / 65536 % 256 * 65536 + n / 16777216 * 16777216 ≡ n = omega arith in
    ap (to_z w32) e ∙ to_z-of_z w32 z f

pub weight_back : (options scope : List ℕ) (w : Weight) → GoodWeight options scope w → weight_of (w.position ∷ w.option ∷ two_bytes w.amount) ≡ w
weight_back options scope w g =
    ap (λ z. record { position = w.position; option = w.option; amount = z }) (two_back w.amount (small_fits w.amount g.low g.high))

-- a weight's own test
pub weighs_well : (options scope : List ℕ) (w : Weight) → GoodWeight options scope w → well_weighed options scope w ≡ true
weighs_well options scope w g =
    let low : lt_z w.amount (negsuc 29999) ≡ false = grind (arith, ints, g.low) in
    let high : lt_z (pos 30000) w.amount ≡ false = grind (arith, ints, g.high) in
    and_from _ _ (lt-ltb _ _ g.placed) (and_from _ _ (lt-ltb _ _ g.known) (and_from _ _ (not_from_false _ low) (not_from_false _ high)))

-- bytes that are not used, behind those that are
replicated_unused : (n : ℕ) → all unused (replicate n 255) ≡ true
replicated_unused zero = refl
replicated_unused (suc n) = replicated_unused n

-- a body of eight bytes
pub length_padded : (xs : List ℕ) → length xs ≤ 8 → length (padded xs) ≡ 8
length_padded xs h = simp (length-append, length-replicate) (omega arith)

-- a row's own test
pub fills_well : (options scope xs : List ℕ) (n : ℕ) → GoodRow options scope xs → well_filled options scope (xs ++ replicate n 255) ≡ true
fills_well options [] [] n g = replicated_unused n
fills_well options [] (x ∷ xs) n g = absurd g
fills_well options (s ∷ ss) [] n g = absurd g
fills_well options (s ∷ ss) (x ∷ xs) n g = and_from _ _ (lt-ltb x (get_or options s 0) g.0) (fills_well options ss xs n g.1)

pub length_row : (options scope xs : List ℕ) → GoodRow options scope xs → length xs ≡ length scope
length_row options [] [] g = refl
length_row options [] (x ∷ xs) g = absurd g
length_row options (s ∷ ss) [] g = absurd g
length_row options (s ∷ ss) (x ∷ xs) g = ap suc (length_row options ss xs g.1)

-- a row comes back from its body
pub row_back : (options scope xs : List ℕ) → GoodRow options scope xs → take (length scope) (padded xs) ≡ xs
row_back options scope xs g = take_at xs _ (length scope) (length_row options scope xs g)

-- what stands nowhere in a list is not found there
has_none : (x : ℕ) (ys : List ℕ) → AllByRecursion (λ y. x ≡ y → ⊥) ys → has x ys ≡ false
has_none x [] a = refl
has_none x (y ∷ ys) a = or_from _ _ (ne_eqb x y a.0) (has_none x ys a.1)

same_not : (x y : List ℕ) → (x ≡ y → ⊥) → same x y ≡ false
same_not x y h = not-true (same x y) ((Decides-not (same x y) (compares_Decides same (search rules) x y)).1 h)

list_none : (x : List ℕ) (ys : List (List ℕ)) → AllByRecursion (λ y. x ≡ y → ⊥) ys → has_list x ys ≡ false
list_none x [] a = refl
list_none x (y ∷ ys) a = or_from _ _ (same_not x y a.0) (list_none x ys a.1)

-- what holds of each element holds of one between others
pub all_mid : {X : Type 0} {all : List X} (P : X → Type 0) (done : List X) (x : X) (left : List X) → done ++ x ∷ left ≡ all → AllByRecursion P all → P x
all_mid {X} P done x left e a = among done (subst (AllByRecursion P) (sym e) a)
  where
    among : (before : List X) → AllByRecursion P (before ++ x ∷ left) → P x
    among [] h = h.0
    among (y ∷ before) h = among before h.1

-- none of the elements before one is the same
before_none : {X : Type 0} (done : List X) (x : X) (left : List X) → Apart (done ++ x ∷ left) → AllByRecursion (λ y. x ≡ y → ⊥) done
before_none [] x left a = tt
before_none (y ∷ done) x left a = (λ e. all_mid (λ z. y ≡ z → ⊥) done x left refl a.0 (sym e), before_none done x left a.1)

-- an element of a list without repeats is not found among those before it
pub not_yet : {all : List (List ℕ)} (done : List (List ℕ)) (x : List ℕ) (left : List (List ℕ)) → done ++ x ∷ left ≡ all → Apart all → has_list x done ≡ false
not_yet done x left e a = list_none x done (before_none done x left (subst Apart (sym e) a))

-- a scope's own test
pub scopes_well : (n : ℕ) (ss : List ℕ) → AllByRecursion (λ s. s < n) ss → Apart ss → well_scoped n ss ≡ true
scopes_well n [] k a = refl
scopes_well n (s ∷ ss) k a = and_from _ _ (lt-ltb s n k.0) (and_from _ _ (not_from_false _ (has_none s ss a.0)) (scopes_well n ss k.1 a.1))

-- a header's body, with the bytes of a cap or none behind it
module _ (ss tail : List ℕ) (some : 1 ≤ length ss) (few : length ss ≤ 8) where
  pub scope_back : scope_of (length ss ∷ padded ss ++ tail) ≡ ss
  scope_back = ap (take (length ss)) (append_assoc ss (replicate (8 - length ss) 255) tail) ∙ take_at ss _ (length ss) refl

  pub sizes_well : well_sized (length ss ∷ padded ss ++ tail) ≡ true
  sizes_well =
      let gap = replicate (8 - length ss) 255 in
      let behind : drop (1 + length ss) (length ss ∷ padded ss ++ tail) ≡ gap ++ tail = ap (λ n. drop n (length ss ∷ padded ss ++ tail)) (one-add (length ss)) ∙ ap (drop (length ss)) (append_assoc ss gap tail) ∙ drop_at ss (gap ++ tail) (length ss) refl in
      let unused-gap : take (8 - length ss) (drop (1 + length ss) (length ss ∷ padded ss ++ tail)) ≡ gap = ap (take (8 - length ss)) behind ∙ take_at gap tail (8 - length ss) (length-replicate (8 - length ss) 255) in
      and_from _ _ (and_from _ _ (le-leb 1 (length ss) some) (le-leb (length ss) 8 few)) (ap (all unused) unused-gap ∙ replicated_unused (8 - length ss))

  pub tail_back : drop 9 (length ss ∷ padded ss ++ tail) ≡ tail
  tail_back = drop_at (padded ss) tail 8 (length_padded ss few)

-- what the weights of two lists are of
pub places_append : (vs ws : List Weight) → places (vs ++ ws) ≡ places vs ++ places ws
places_append [] ws = refl
places_append (v ∷ vs) ws = ap (λ l. place v ∷ l) (places_append vs ws)
