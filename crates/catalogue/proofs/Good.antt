-- That scopes, rows and weights that pass the tests of a file are good, and that a good sheet stays good with one more. Assumes nothing.
use Rattle.std.proofs.Common.{◌≡◌, ℕ, ◌<◌, ◌≤◌, true, false, not, eqb, ltb, List, [], ◌∷◌, ◌++◌, length, get_or, take, negsuc, sym, refl, ap, subst, arith, rules}
use lib.Signed.{lt_z}
use Rattle.std.specs.List.{AllByRecursion}
use Rattle.std.proofs.ByRecursion.{All-push}
use Rattle.std.proofs.lemmas.Slice.Eq.{compares_Decides}
use Rattle.std.proofs.lemmas.Int.{ints}
use Rattle.std.proofs.lemmas.Bool.{and_parts, or_parts, not-true, false≢true, ltb-true, eqb-false}
use Rattle.std.proofs.lemmas.Bool.Decides.{not_from_Decides}
use Rattle.catalogue.specs.declared.make.Make.{Make}
use Rattle.catalogue.specs.declared.make.Make.TheVariants.{Fit, Bar, Load}
use Rattle.catalogue.specs.Content.{Weight, Sheet, Apart, GoodRow, GoodWeight, GoodSheet, Lacks, place, places}
use Rattle.catalogue.specs.Checks.{has, same, has_list, well_scoped, well_filled, well_weighed, scope_of, is_load, fresh, well_sized}
use Rattle.catalogue.specs.Law.{Octets}
use Rattle.catalogue.proofs.Bodies.{sizes, cap_fits}

-- a number or a list that a list has not
has_not : (x : ℕ) (xs : List ℕ) → has x xs ≡ false → AllByRecursion (λ y. x ≡ y → ⊥) xs
has_not x [] e = tt
has_not x (y ∷ ys) e = let p = or_parts (eqb x y) (has x ys) e in (eqb-false x y p.0, has_not x ys p.1)

has_no_list : (x : List ℕ) (ys : List (List ℕ)) → has_list x ys ≡ false → AllByRecursion (λ y. x ≡ y → ⊥) ys
has_no_list x [] e = tt
has_no_list x (y ∷ ys) e =
    let p = or_parts (same x y) (has_list x ys) e in
    (not_from_Decides (same x y) (compares_Decides same (search rules) x y) p.0, has_no_list x ys p.1)

-- one more element that is none of those before
apart_push : {X : Type 0} (xs : List X) (x : X) → Apart xs → AllByRecursion (λ y. x ≡ y → ⊥) xs → Apart (xs ++ x ∷ [])
apart_push [] x a n = (tt, tt)
apart_push (y ∷ ys) x a n =
    (All-push (λ z. y ≡ z → ⊥) ys x a.0 (λ e. n.0 (sym e)), apart_push ys x a.1 n.1)

-- A scope that passes names slots that are there, none twice.
scope_known : (n : ℕ) (ss : List ℕ) → well_scoped n ss ≡ true → AllByRecursion (λ s. s < n) ss
scope_known n [] e = tt
scope_known n (s ∷ ss) e =
    let p = and_parts (ltb s n) _ e in
    (ltb-true s n p.0, scope_known n ss (and_parts (not (has s ss)) _ p.1).1)

scope_apart : (n : ℕ) (ss : List ℕ) → well_scoped n ss ≡ true → Apart ss
scope_apart n [] e = tt
scope_apart n (s ∷ ss) e =
    let p = and_parts (not (has s ss)) _ (and_parts (ltb s n) _ e).1 in
    (has_not s ss (not-true (has s ss) p.0), scope_apart n ss p.1)

-- A row that passes has an option of each slot of the scope.
row_good : (os ss xs : List ℕ) → well_filled os ss xs ≡ true → GoodRow os ss (take (length ss) xs)
row_good os [] xs e = tt
row_good os (s ∷ ss) [] e = false≢true e
row_good os (s ∷ ss) (x ∷ xs) e =
    let p = and_parts (ltb x (get_or os s 0)) _ e in (ltb-true x (get_or os s 0) p.0, row_good os ss xs p.1)

-- A weight that passes is of an option of a slot of the scope, and within its bounds.
weight_good : (os ss : List ℕ) (w : Weight) → well_weighed os ss w ≡ true → GoodWeight os ss w
weight_good os ss w e =
    let p = and_parts (ltb w.position (length ss)) _ e in
    let q = and_parts (ltb w.option _) _ p.1 in
    let r = and_parts (not (lt_z w.amount (negsuc 29999))) _ q.1 in
    let low = not-true _ r.0 in
    let high = not-true _ r.1 in
    record { placed = ltb-true _ _ p.0; known = ltb-true _ _ q.0; low = grind (arith, ints); high = grind (arith, ints) }

-- A sheet whose header passes is good.
fresh_lacks : (m : Make) (b : List ℕ) → Lacks m (fresh m b)
fresh_lacks Fit b = (refl, refl)
fresh_lacks Bar b = (refl, refl)
fresh_lacks Load b = refl

pub sheet_fresh : (os : List ℕ) (m : Make) (b : List ℕ) → 9 ≤ length b → Octets b → well_sized b ≡ true → well_scoped (length os) (scope_of b) ≡ true → GoodSheet os (fresh m b)
sheet_fresh os m b nine o sized scoped =
    let z = sizes b nine sized in
    record {
      some = omega (arith, z.long, z.low);
      few = omega (arith, z.long, z.high);
      known = scope_known (length os) (scope_of b) scoped;
      apart = scope_apart (length os) (scope_of b) scoped;
      lacks = fresh_lacks m b;
      fits = cap_fits m b o;
      rows = tt;
      rows_apart = tt;
      weights = tt;
      weights_apart = tt;
    }

-- One more row that passes keeps a sheet good.
abbrev pub with_row : Sheet → List ℕ → Sheet
with_row t r = record { make = t.make; scope = t.scope; «cap» = t.«cap»; rows = t.rows ++ r ∷ []; weights = t.weights }

row_lacks : (m : Make) (t : Sheet) (r : List ℕ) → is_load m ≡ false → Lacks m t → Lacks m (with_row t r)
row_lacks Fit t r e l = l
row_lacks Bar t r e l = l
row_lacks Load t r e l = absurd (false≢true (sym e))

pub sheet_row : (os : List ℕ) (t : Sheet) (b : List ℕ) → is_load t.make ≡ false → well_filled os t.scope b ≡ true → has_list (take (length t.scope) b) t.rows ≡ false → GoodSheet os t → GoodSheet os (with_row t (take (length t.scope) b))
sheet_row os t b make fills new g =
    let r = take (length t.scope) b in
    record {
      some = g.some;
      few = g.few;
      known = g.known;
      apart = g.apart;
      lacks = row_lacks t.make t r make g.lacks;
      fits = g.fits;
      rows = All-push (GoodRow os t.scope) t.rows r g.rows (row_good os t.scope b fills);
      rows_apart = apart_push t.rows r g.rows_apart (has_no_list r t.rows new);
      weights = g.weights;
      weights_apart = g.weights_apart;
    }

-- One more weight that passes keeps a sheet good.
abbrev pub with_weight : Sheet → Weight → Sheet
with_weight t w = record { make = t.make; scope = t.scope; «cap» = t.«cap»; rows = t.rows; weights = t.weights ++ w ∷ [] }

weight_lacks : (m : Make) (t : Sheet) (w : Weight) → is_load m ≡ true → Lacks m t → Lacks m (with_weight t w)
weight_lacks Fit t w e l = absurd (false≢true e)
weight_lacks Bar t w e l = absurd (false≢true e)
weight_lacks Load t w e l = l

places_push : (ws : List Weight) (w : Weight) → places (ws ++ w ∷ []) ≡ places ws ++ place w ∷ []
places_push [] w = refl
places_push (v ∷ vs) w = ap (λ l. place v ∷ l) (places_push vs w)

pub sheet_weight : (os : List ℕ) (t : Sheet) (w : Weight) → is_load t.make ≡ true → well_weighed os t.scope w ≡ true → has_list (place w) (places t.weights) ≡ false → GoodSheet os t → GoodSheet os (with_weight t w)
sheet_weight os t w make weighs new g =
    record {
      some = g.some;
      few = g.few;
      known = g.known;
      apart = g.apart;
      lacks = weight_lacks t.make t w make g.lacks;
      fits = g.fits;
      rows = g.rows;
      rows_apart = g.rows_apart;
      weights = All-push (GoodWeight os t.scope) t.weights w g.weights (weight_good os t.scope w weighs);
      weights_apart = subst Apart (sym (places_push t.weights w)) (apart_push (places t.weights) (place w) g.weights_apart (has_no_list (place w) (places t.weights) new));
    }
