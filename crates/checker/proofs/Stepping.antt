-- What one record more does to what a check's state shows. Assumes nothing.
use Rattle.std.proofs.Common.{◌≡◌, ℕ, zero, suc, ◌+◌, ◌*◌, ◌<◌, ◌≤◌, Bool, true, false, not, ◌&&◌, leb, List, [], ◌∷◌, ◌++◌, length, take, drop, is_some, Some, None, Ok, Option, sym, refl, ap, ◌∙◌, subst, mul-zero, mul-suc, arith, lit<, lit≤, length-append}
use Rattle.std.proofs.lemmas.List.{take-take}
use Rattle.std.proofs.lemmas.Bool.{false≢true}
use Rattle.std.proofs.lemmas.Bool.Decides.{nat_tests}
use Rattle.catalogue.specs.declared.make.Make.{Make}
use Rattle.catalogue.specs.declared.make.Make.TheVariants.{Fit, Bar, Load}
use Rattle.checker.specs.declared.progress.Newest.{Newest as NewestSheet}
use Rattle.catalogue.specs.Content.{Sheet, Weight, rows_in, loads_in, is_one, place, places}
use Rattle.catalogue.specs.Records.{header_size}
use Rattle.catalogue.proofs.Complete.{rows_append, loads_append}
use Rattle.catalogue.proofs.Good.{with_row, with_weight}
use Rattle.catalogue.specs.Checks.{listed, has_list, well_filled, well_sized, well_scoped, scope_of, well_weighed, weight_of, is_load, takes_rows, takes_weights, scope_in, rows_of, places_of, add_row, add_weight, fresh}
use Rattle.checker.specs.Model.{Part, parts_from, head_len, row_read, weight_read, scope_read}
use Rattle.checker.specs.Steps.{HoldsNewest, HoldsSheet, loads_with, step_of, key_len, keys_of}

-- where there is no sheet yet, there is none after a slot
pub still_none : (bs : List ℕ) (at to : ℕ) (m : Option NewestSheet) (o : Option Sheet) → is_some m ≡ false → HoldsNewest bs at m o → HoldsNewest bs to m o
still_none bs at to None None e h = tt
still_none bs at to None (Some t) e h = h
still_none bs at to (Some m) o e h = let z : ◌≡◌ {A = ℕ} 0 1 = cc in absurd (omega arith)

-- the newest sheet with a row more
pub record RowMore (xs : List Sheet) (o : Option Sheet) (b : List ℕ) : Type 0 where
  pub sheets : length (xs ++ listed (add_row b o)) ≡ length (xs ++ listed o)
  pub loads : loads_in (xs ++ listed (add_row b o)) ≡ loads_in (xs ++ listed o)
  pub rows : rows_in (xs ++ listed (add_row b o)) ≡ rows_in (xs ++ listed o) + 1

counts_with_row : (xs : List Sheet) (t : Sheet) (b : List ℕ) → RowMore xs (Some t) b
counts_with_row xs t b =
    record {
      sheets = simp length-append;
      loads = rw (loads_append, loads_append);
      rows = simp (rows_append, length-append) (omega arith);
    }

pub record WeightMore (xs : List Sheet) (o : Option Sheet) (b : List ℕ) : Type 0 where
  pub sheets : length (xs ++ listed (add_weight b o)) ≡ length (xs ++ listed o)
  pub loads : loads_in (xs ++ listed (add_weight b o)) ≡ loads_in (xs ++ listed o)
  pub rows : rows_in (xs ++ listed (add_weight b o)) ≡ rows_in (xs ++ listed o)

pub counts_with_weight : (xs : List Sheet) (o : Option Sheet) (b : List ℕ) → WeightMore xs o b
counts_with_weight xs None b = record { sheets = refl; loads = refl; rows = refl }
counts_with_weight xs (Some t) b =
    record { sheets = simp length-append; loads = rw (loads_append, loads_append); rows = rw (rows_append, rows_append) }

-- one record more of those that stand from a place on
parts_push : (bs : List ℕ) (len step first n : ℕ) → parts_from bs len step first (suc n) ≡ parts_from bs len step first n ++ take len (drop (first + step * n + 1) bs) ∷ []
parts_push bs len step first zero = ap (λ k. take len (drop k bs) ∷ []) (omega (arith, mul-zero step))
parts_push bs len step first (suc n) =
    ap (λ l. take len (drop (first + 1) bs) ∷ l) (parts_push bs len step (first + step) n ∙ ap (λ k. parts_from bs len step (first + step) n ++ take len (drop k bs) ∷ []) (omega (arith, mul-suc step n)))

pub part_push : (bs : List ℕ) (len step first n at size : ℕ) (b : List ℕ) → first + step * n ≡ at → Part bs at size b → len ≤ size → parts_from bs len step first (suc n) ≡ parts_from bs len step first n ++ take len b ∷ []
part_push bs len step first n at size b e p short =
    let here : first + step * n + 1 ≡ at + 1 = omega arith in
    parts_push bs len step first n ∙ ap (λ x. parts_from bs len step first n ++ x ∷ []) (ap (λ k. take len (drop k bs)) here ∙ sym (take-take len size (drop (at + 1) bs) short) ∙ ap (take len) (sym p.is))

-- what would be where a test were both
false_is_no_true : {X : Type 0} → false ≡ true → X
false_is_no_true e = absurd (false≢true e)

some_equal : {a b : ℕ} → ◌≡◌ {A = Option ℕ} (Some a) (Some b) → a ≡ b
some_equal e = cc

-- the places of weights with one more
places_with_weight : (ws : List Weight) (b : List ℕ) → 2 ≤ length b → places (ws ++ weight_of b ∷ []) ≡ places ws ++ take 2 b ∷ []
places_with_weight [] [] l = absurd (omega arith)
places_with_weight [] (x ∷ []) l = absurd (omega arith)
places_with_weight [] (x ∷ y ∷ b) l = refl
places_with_weight (w ∷ ws) b l = ap (λ r. place w ∷ r) (places_with_weight ws b l)

-- the newest sheet of what was said, where the state has one
pub record Here (bs : List ℕ) (at : ℕ) (n : NewestSheet) (o : Option Sheet) : Type 0 where
  pub sheet : Sheet
  pub is : o ≡ Some sheet
  pub held : HoldsSheet bs at n sheet

pub newest_here : (bs : List ℕ) (at : ℕ) (n : NewestSheet) (o : Option Sheet) → HoldsNewest bs at (Some n) o → Here bs at n o
newest_here bs at n None h = absurd h
newest_here bs at n (Some t) h = record { sheet = t; is = refl; held = h }

-- what a make that takes rows says of its records
record OfRows (m : Make) : Type 0 where
  step : step_of m ≡ 9
  len : (ss : List ℕ) → key_len m ss ≡ length ss
  keys : (t : Sheet) → keys_of m t ≡ t.rows

of_rows : (m : Make) → is_load m ≡ false → OfRows m
of_rows Fit e = record { step = refl; len = λ ss. refl; keys = λ t. refl }
of_rows Bar e = record { step = refl; len = λ ss. refl; keys = λ t. refl }
of_rows Load e = false_is_no_true (sym e)

-- and one that takes weights
record OfWeights (m : Make) : Type 0 where
  step : step_of m ≡ 5
  len : (ss : List ℕ) → key_len m ss ≡ 2
  keys : (t : Sheet) → keys_of m t ≡ places t.weights

of_weights : (m : Make) → is_load m ≡ true → OfWeights m
of_weights Fit e = false_is_no_true e
of_weights Bar e = false_is_no_true e
of_weights Load e = record { step = refl; len = λ ss. refl; keys = λ t. refl }

-- a search among the records before a place, where it begins and the size of the records are known by other terms
pub search_at : (bs key : List ℕ) (r : Bool) (at first from step size : ℕ) → first ≡ from → step ≡ size → ((k : ℕ) → first + step * k ≡ at → r ≡ has_list key (parts_from bs (length key) step first k)) → (k : ℕ) → from + size * k ≡ at → r ≡ has_list key (parts_from bs (length key) size from k)
search_at bs key r at first from step size e f g =
    subst (λ i. (k : ℕ) → i + size * k ≡ at → r ≡ has_list key (parts_from bs (length key) size i k)) e
    (subst (λ s. (k : ℕ) → first + s * k ≡ at → r ≡ has_list key (parts_from bs (length key) s first k)) f g)

module _ (bs : List ℕ) (at : ℕ) (n : NewestSheet) where
  -- What the tests of a row or a weight are by the state.
  module _ (o : Option Sheet) (h : Here bs at n o) where
    pub rows_under : (b : Bool) → is_load n.make ≡ b → takes_rows o ≡ not b
    rows_under b e = ap takes_rows h.is ∙ ap (λ k. not (is_load k)) h.held.make ∙ ap not e

    pub weights_under : (b : Bool) → is_load n.make ≡ b → takes_weights o ≡ b
    weights_under b e = ap takes_weights h.is ∙ ap is_load h.held.make ∙ e

    pub scope_shown : scope_in o ≡ n.scope.now
    scope_shown = ap scope_in h.is ∙ sym h.held.scope

    -- an earlier record of the sheet has the same key, by the search among the records before
    stood : (r : Bool) (key : List ℕ) (step : ℕ) (keys : List (List ℕ)) → step_of n.make ≡ step → length key ≡ key_len n.make h.sheet.scope → keys_of n.make h.sheet ≡ keys → ((k : ℕ) → n.first + step * k ≡ at → r ≡ has_list key (parts_from bs (length key) step n.first k)) → r ≡ has_list key keys
    stood r key step keys e l k f =
        let t = h.held in
        let g = subst (λ s. (k : ℕ) → n.first + s * k ≡ at → r ≡ has_list key (parts_from bs (length key) s n.first k)) (sym e) f in
        g t.number t.reaches ∙ ap (λ i. has_list key (parts_from bs i (step_of n.make) n.first t.number)) l ∙ ap (has_list key) t.parts ∙ ap (has_list key) k

    pub row_stood : is_load n.make ≡ false → (r : Bool) (b key : List ℕ) → key ≡ take (length n.scope.now) b → length key ≡ length n.scope.now → ((k : ℕ) → n.first + 9 * k ≡ at → r ≡ has_list key (parts_from bs (length key) 9 n.first k)) → r ≡ has_list (take (length (scope_in o)) b) (rows_of o)
    row_stood e r b key k l f =
        let w = of_rows n.make e in
        stood r key 9 h.sheet.rows w.step (l ∙ ap length h.held.scope ∙ sym (w.len h.sheet.scope)) (w.keys h.sheet) f ∙ ap (λ x. has_list x h.sheet.rows) (k ∙ ap (λ ss. take (length ss) b) (sym scope_shown)) ∙ ap (λ x. has_list (take (length (scope_in o)) b) (rows_of x)) (sym h.is)

    pub weight_stood : is_load n.make ≡ true → (r : Bool) (b key : List ℕ) → key ≡ take 2 b → length key ≡ 2 → ((k : ℕ) → n.first + 5 * k ≡ at → r ≡ has_list key (parts_from bs (length key) 5 n.first k)) → r ≡ has_list (take 2 b) (places_of o)
    weight_stood e r b key k l f =
        let w = of_weights n.make e in
        stood r key 5 (places h.sheet.weights) w.step (l ∙ sym (w.len h.sheet.scope)) (w.keys h.sheet) f ∙ ap (λ x. has_list x (places h.sheet.weights)) k ∙ ap (λ x. has_list (take 2 b) (places_of x)) (sym h.is)

  -- The newest sheet with one record more, which lies at the place.
  grown : (t u : Sheet) (size : ℕ) (b : List ℕ) → Part bs at size b → key_len n.make t.scope ≤ size → u.make ≡ t.make → u.scope ≡ t.scope → keys_of n.make u ≡ keys_of n.make t ++ take (key_len n.make t.scope) b ∷ [] → HoldsSheet bs at n t → HoldsSheet bs (at + step_of n.make) n u
  grown t u size b part short make same keys h =
      let m = n.make in
      record {
        make = make ∙ h.make;
        scope = h.scope ∙ sym same;
        number = suc h.number;
        reaches = omega (arith, h.reaches, mul-suc (step_of m) h.number);
        parts =
            ap (λ ss. parts_from bs (key_len m ss) (step_of m) n.first (suc h.number)) same ∙ part_push bs (key_len m t.scope) (step_of m) n.first h.number at size b h.reaches part short ∙ ap (λ l. l ++ take (key_len m t.scope) b ∷ []) h.parts ∙ sym keys;
      }

  pub row_newest : (o : Option Sheet) (b : List ℕ) → HoldsNewest bs at (Some n) o → is_load n.make ≡ false → Part bs at 8 b → length n.scope.now ≤ 8 → HoldsNewest bs (at + 9) (Some n) (add_row b o)
  row_newest None b h e part l = absurd h
  row_newest (Some t) b h e part l =
      let w = of_rows n.make e in
      subst (λ s. HoldsSheet bs (at + s) n (with_row t (take (length t.scope) b))) w.step
      (grown t (with_row t (take (length t.scope) b)) 8 b part (subst (λ k. k ≤ 8) (ap length h.scope ∙ sym (w.len t.scope)) l) refl refl (w.keys (with_row t (take (length t.scope) b)) ∙ sym (ap (λ l. l ++ take (length t.scope) b ∷ []) (w.keys t)) ∙ ap (λ k. keys_of n.make t ++ take k b ∷ []) (sym (w.len t.scope))) h)

  pub weight_newest : (o : Option Sheet) (b : List ℕ) → HoldsNewest bs at (Some n) o → is_load n.make ≡ true → Part bs at 4 b → HoldsNewest bs (at + 5) (Some n) (add_weight b o)
  weight_newest None b h e part = absurd h
  weight_newest (Some t) b h e part =
      let w = of_weights n.make e in
      subst (λ s. HoldsSheet bs (at + s) n (with_weight t (weight_of b))) w.step
      (grown t (with_weight t (weight_of b)) 4 b part (subst (λ k. k ≤ 4) (sym (w.len t.scope)) (lit≤ tt)) refl refl (w.keys (with_weight t (weight_of b)) ∙ places_with_weight t.weights b (omega (arith, part.long)) ∙ sym (ap (λ l. l ++ take 2 b ∷ []) (w.keys t)) ∙ ap (λ k. keys_of n.make t ++ take k b ∷ []) (sym (w.len t.scope))) h)

  -- the newest sheet is there where rows may follow
  pub row_counts : (xs : List Sheet) (o : Option Sheet) (b : List ℕ) → Here bs at n o → RowMore xs o b
  row_counts xs o b h = subst (λ x. RowMore xs x b) (sym h.is) (counts_with_row xs h.sheet b)

-- A header makes its sheet the newest.
pub head_newest : (bs : List ℕ) (at : ℕ) (n : NewestSheet) (b : List ℕ) → n.scope.now ≡ (fresh n.make b).scope → n.first ≡ at → HoldsNewest bs at (Some n) (Some (fresh n.make b))
head_newest bs at n b scope first =
    record { make = refl; scope = scope; number = 0; reaches = omega (arith, mul-zero (step_of n.make)); parts = no_keys n.make }
  where
    no_keys : (k : Make) → [] ≡ keys_of k (fresh n.make b)
    no_keys Fit = refl
    no_keys Bar = refl
    no_keys Load = refl

-- how many load sheets there are with one sheet more
pub loads_counted : (m : Make) (n k : ℕ) → Some k ≡ loads_with n m → (k ≡ n + is_one m) × ((is_load m && leb 8 n) ≡ false)
loads_counted Fit n k e = (omega (arith, some_equal e), refl)
loads_counted Bar n k e = (omega (arith, some_equal e), refl)
loads_counted Load n k e = (grind (arith, nat_tests), grind (arith, nat_tests))

-- What a reading that went well tells.
pub row_read_passes : (at : ℕ) (os ss b key : List ℕ) → Ok key ≡ row_read at os ss b → (well_filled os ss b ≡ true) × (key ≡ take (length ss) b)
row_read_passes at os ss b key e = (grind (arith, nat_tests), grind (arith, nat_tests))

pub weight_read_passes : (at : ℕ) (os ss b key : List ℕ) → Ok key ≡ weight_read at os ss b → (well_weighed os ss (weight_of b) ≡ true) × (key ≡ take 2 b)
weight_read_passes at os ss b key e = (grind (arith, nat_tests), grind (arith, nat_tests))

pub scope_read_passes : (at n : ℕ) (b ss : List ℕ) → Ok ss ≡ scope_read at n b → (well_sized b ≡ true) × (well_scoped n (scope_of b) ≡ true) × (ss ≡ scope_of b)
scope_read_passes at n b ss e = (grind (arith, nat_tests), grind (arith, nat_tests), grind (arith, nat_tests))

-- of the makes, load alone takes weights
pub load_is : (m : Make) → m ≡ Load → is_load m ≡ true
load_is m e = ap is_load e

pub load_is_not : (m : Make) → (m ≡ Load → ⊥) → is_load m ≡ false
load_is_not Fit e = refl
load_is_not Bar e = refl
load_is_not Load e = absurd (e refl)

-- a header ends where its sheet's records begin
pub head_ends : (at : ℕ) (m : Make) (b : List ℕ) → length b ≡ head_len m → at + 1 + length b ≡ at + header_size m
head_ends at Fit b e = omega arith
head_ends at Bar b e = omega arith
head_ends at Load b e = omega arith

-- the counts with a fresh sheet behind the others
pub record HeadMore (ts : List Sheet) (t : Sheet) : Type 0 where
  pub sheets : length (ts ++ t ∷ []) ≡ length ts + 1
  pub loads : loads_in (ts ++ t ∷ []) ≡ loads_in ts + is_one t.make
  pub rows : rows_in (ts ++ t ∷ []) ≡ rows_in ts + length t.rows

pub head_more : (ts : List Sheet) (t : Sheet) → HeadMore ts t
head_more ts t =
    record { sheets = simp length-append; loads = rw loads_append (omega arith); rows = rw rows_append (omega arith) }

pub head_some : (m : Make) → 0 < header_size m
head_some Fit = lit< tt
head_some Bar = lit< tt
head_some Load = lit< tt
