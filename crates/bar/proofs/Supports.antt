-- An option is supported exactly where fewer fitting rows have it than there are fitting lists that do. Assumes nothing.
use Rattle.std.proofs.Common.{◌≡◌, ℕ, zero, suc, ◌<◌, ◌≤◌, List, [], ◌∷◌, map, length, get_or, take, set, sym, refl, ap, ◌∙◌, subst, ⊎_elim, arith, length-take, get_or-take}
use lib.ListN.{length-map}
use Rattle.std.proofs.lemmas.Bool.{cases_order, cases_lt}
use Rattle.boxes.specs.Boxes.{Open, Fits}
use Rattle.boxes.proofs.Bits.{open_low}
use Rattle.sheets.specs.Tables.{row_at}
use Rattle.bar.specs.Counted.{In, NoDup, HowMany, product}
use Rattle.bar.specs.Tally.{Measures, Bears, Room, Marks, RowsApart, Spared, Backs}
use Rattle.bar.proofs.Products.{product_front}
use Rattle.bar.proofs.Points.{Chosen, Apiece, in_map, of_map, once_map, pigeonhole}

-- the open options of each slot, and how many they are
module _ (b : List ℕ) where
  abbrev pub Sized : List ℕ → List ℕ → Type 0
  Sized [] [] = Unit {0}
  Sized [] (n ∷ ns) = ⊥
  Sized (s ∷ ss) [] = ⊥
  Sized (s ∷ ss) (n ∷ ns) = HowMany (Open b s) 32 n × Sized ss ns

  sized_from : (ss ns : List ℕ) → length ss ≡ length ns → ((q : ℕ) → q < length ss → HowMany (Open b (get_or ss q 0)) 32 (get_or ns q 0)) → Sized ss ns
  sized_from [] [] e f = tt
  sized_from [] (n ∷ ns) e f = omega arith
  sized_from (s ∷ ss) [] e f = omega arith
  sized_from (s ∷ ss) (n ∷ ns) e f = (f 0 (omega arith), sized_from ss ns (omega arith) (λ q h. f (suc q) (omega arith)))

  abbrev options_of : (ss ns : List ℕ) → Sized ss ns → List (List ℕ)
  options_of [] [] z = []
  options_of [] (n ∷ ns) z = []
  options_of (s ∷ ss) [] z = []
  options_of (s ∷ ss) (n ∷ ns) z = z.0.list ∷ options_of ss ns z.1

  options_sizes : (ss ns : List ℕ) (z : Sized ss ns) → map length (options_of ss ns z) ≡ ns
  options_sizes [] [] z = refl
  options_sizes [] (n ∷ ns) z = absurd z
  options_sizes (s ∷ ss) [] z = absurd z
  options_sizes (s ∷ ss) (n ∷ ns) z = let e = z.0.long in let f = options_sizes ss ns z.1 in cc

  options_once : (ss ns : List ℕ) (z : Sized ss ns) → Apiece (options_of ss ns z)
  options_once [] [] z = tt
  options_once [] (n ∷ ns) z = absurd z
  options_once (s ∷ ss) [] z = absurd z
  options_once (s ∷ ss) (n ∷ ns) z = (z.0.once, options_once ss ns z.1)

  options_long : (ss ns : List ℕ) (z : Sized ss ns) → length (options_of ss ns z) ≡ length ss
  options_long [] [] z = refl
  options_long [] (n ∷ ns) z = absurd z
  options_long (s ∷ ss) [] z = absurd z
  options_long (s ∷ ss) (n ∷ ns) z = ap suc (options_long ss ns z.1)

  options_at : (ss ns : List ℕ) (z : Sized ss ns) (p o : ℕ) → p < length ss → Open b (get_or ss p 0) o → In o (get_or (options_of ss ns z) p [])
  options_at [] [] z p o h f = absurd (omega arith)
  options_at [] (n ∷ ns) z p o h f = absurd z
  options_at (s ∷ ss) [] z p o h f = absurd z
  options_at (s ∷ ss) (n ∷ ns) z zero o h f = z.0.complete o (open_low b s o f) f
  options_at (s ∷ ss) (n ∷ ns) z (suc p) o h f = options_at ss ns z.1 p o (omega arith) f

  -- the lists with one of them for each slot are those that fit
  fits_chosen : (ss ns : List ℕ) (z : Sized ss ns) (l : List ℕ) → Fits b ss l → Chosen l (options_of ss ns z)
  fits_chosen [] [] z [] f = tt
  fits_chosen [] [] z (x ∷ l) f = omega (arith, f.long)
  fits_chosen [] (n ∷ ns) z l f = absurd z
  fits_chosen (s ∷ ss) [] z l f = absurd z
  fits_chosen (s ∷ ss) (n ∷ ns) z [] f = omega (arith, f.long)
  fits_chosen (s ∷ ss) (n ∷ ns) z (x ∷ l) f =
      let h = f.each 0 (omega arith) in (
        z.0.complete x (open_low b s x h) h,
        fits_chosen ss ns z.1 l (record { long = omega (arith, f.long); each = λ p q. f.each (suc p) (omega arith) }),
      )

  chosen_fits : (ss ns : List ℕ) (z : Sized ss ns) (l : List ℕ) → Chosen l (options_of ss ns z) → Fits b ss l
  chosen_fits [] [] z [] c = record { long = refl; each = λ p h. absurd (omega arith) }
  chosen_fits [] [] z (x ∷ l) c = absurd c
  chosen_fits [] (n ∷ ns) z l c = absurd z
  chosen_fits (s ∷ ss) [] z l c = absurd z
  chosen_fits (s ∷ ss) (n ∷ ns) z [] c = absurd c
  chosen_fits (s ∷ ss) (n ∷ ns) z (x ∷ l) c =
      let f : Fits b ss l = chosen_fits ss ns z.1 l c.1 in
      record { long = omega (arith, f.long); each = go f }
    where
      go : Fits b ss l → (p : ℕ) → p < length (s ∷ ss) → Open b (get_or (s ∷ ss) p 0) (get_or (x ∷ l) p 0)
      go f zero h = (z.0.sound x c.0).1
      go f (suc p) h = f.each p (omega arith)

-- an open option of the scope, and the rows that bear it
module _ (b scope entries ns : List ℕ) (total : ℕ)
    (apart : RowsApart entries (length scope) total) (z : Sized b scope ns)
    (p o c : ℕ) (hp : p < length scope) (here : Open b (get_or scope p 0) o)
    (counts : HowMany (Bears b scope entries p o) total c) where
  bearing : List (List ℕ)
  bearing = map (row_at entries (length scope)) counts.list

  bearing_long : length bearing ≡ c
  unfolding bearing
  bearing_long = length-map counts.list (row_at entries (length scope)) ∙ counts.long

  of_bearing : (l : List ℕ) → In l bearing → (r : ℕ) × (r < total) × Bears b scope entries p o r × (l ≡ row_at entries (length scope) r)
  unfolding bearing
  of_bearing l i =
      let t = of_map (row_at entries (length scope)) l counts.list i in
      let s = counts.sound t.0 t.1 in
      (t.0, s.0, s.1, t.2)

  -- a row that fits and has the option bears it
  in_bearing : (r : ℕ) (l : List ℕ) → r < total → row_at entries (length scope) r ≡ l → Fits b scope l → get_or l p 0 ≡ o → In l bearing
  unfolding bearing
  in_bearing r l low e f h =
      let bears : Bears b scope entries p o r = record { fits = subst (λ (m : List ℕ). Fits b scope m) (sym e) f; has = ap (λ m. get_or m p 0) e ∙ h } in
      subst (λ (m : List ℕ). In m (map (row_at entries (length scope)) counts.list)) e (in_map (row_at entries (length scope)) r counts.list (counts.complete r low bears))

  bearing_once : NoDup bearing
  unfolding bearing
  bearing_once = once_map (row_at entries (length scope)) counts.list
      (λ u v i j e. ⊎_elim (λ f. f) (⊎_elim (λ h. absurd (apart u v h (counts.sound v j).0 e)) (λ h. absurd (apart v u h (counts.sound u i).0 (sym e)))) (cases_order u v))
      counts.once

  bearing_chosen : (l : List ℕ) → In l bearing → Chosen l (options_of b scope ns z) × (get_or l p 0 ≡ o)
  bearing_chosen l i =
      let t = of_bearing l i in
      (fits_chosen b scope ns z l (subst (λ (m : List ℕ). Fits b scope m) (sym t.3) t.2.fits), ap (λ m. get_or m p 0) t.3 ∙ t.2.has)

  spare : (length bearing < product (set (map length (options_of b scope ns z)) p 1) → (l : List ℕ) × Chosen l (options_of b scope ns z) × (get_or l p 0 ≡ o) × (In l bearing → ⊥))
      × (product (set (map length (options_of b scope ns z)) p 1) ≤ length bearing → (l : List ℕ) → Chosen l (options_of b scope ns z) → get_or l p 0 ≡ o → In l bearing)
  spare =
      pigeonhole (options_of b scope ns z) p o bearing (options_once b scope ns z) (omega (arith, options_long b scope ns z)) (options_at b scope ns z p o hp here) bearing_once bearing_chosen

  others_is : product (set (map length (options_of b scope ns z)) p 1) ≡ product (set ns p 1)
  others_is = ap (λ ms. product (set ms p 1)) (options_sizes b scope ns z)

  -- fewer: some list is spared
  spared_if : c < product (set ns p 1) → Spared b scope entries total p o
  spared_if h =
      let t = spare.0 (omega (arith, bearing_long, others_is)) in
      let f : Fits b scope t.0 = chosen_fits b scope ns z t.0 t.1 in
      record { list = t.0; fits = f; holds = t.2; free = λ r low e. t.3 (in_bearing r t.0 low e f t.2) }

  -- some list is spared: fewer
  spared_only_if : Spared b scope entries total p o → c < product (set ns p 1)
  spared_only_if s = ⊎_elim (λ h. h)
      (λ h. let t = of_bearing s.list (spare.1 (omega (arith, bearing_long, others_is)) s.list (fits_chosen b scope ns z s.list s.fits) s.holds) in
      absurd (s.free t.0 t.1 (sym t.3)))
      (cases_lt c (product (set ns p 1)))

-- the whole
pub backs : (b scope entries sizes : List ℕ) (counts : List (List ℕ)) (masks : List ℕ) (total : ℕ) → length scope ≤ 8 → length sizes ≡ 8 → RowsApart entries (length scope) total
    → ((p : ℕ) → p < 8 → Measures b scope p (get_or sizes p 0))
    → ((p o : ℕ) → p < length scope → o < 32 → HowMany (Bears b scope entries p o) total (get_or (get_or counts p []) o 0))
    → ((p : ℕ) → p < length scope → Marks (Room (get_or counts p []) sizes p) 32 (get_or masks p 0))
    → Backs b scope entries total masks
backs b scope entries sizes counts masks total short eight apart each tallied marked =
    let ns = take (length scope) sizes in
    let long : length scope ≡ length (take (length scope) sizes) = simp length-take (omega arith) in
    let z : Sized b scope (take (length scope) sizes) = sized_from b scope (take (length scope) sizes) long
    (λ q h. subst (λ (n : ℕ). HowMany (Open b (get_or scope q 0)) 32 n) (sym (get_or-take (length scope) sizes q 0 h)) ((each q (omega arith)).counts h)) in
    let front : (p : ℕ) → p < length scope → product (set (take (length scope) sizes) p 1) ≡ product (set sizes p 1) =
    λ p h. product_front sizes (length scope) p h (λ q l k. (each q (omega arith)).past l) in
    record {
      sound = λ p o hp here h.
          spared_if b scope entries (take (length scope) sizes) total apart z p o (get_or (get_or counts p []) o 0) hp here (tallied p o hp (open_low b (get_or scope p 0) o here))
          (let room = ((marked p hp).sound o h).1.room in omega (arith, room, front p hp));
      complete = λ p o hp s.
          let here : Open b (get_or scope p 0) o = subst (Open b (get_or scope p 0)) s.holds (s.fits.each p hp) in
          let low : o < 32 = open_low b (get_or scope p 0) o here in
          (marked p hp).complete o low (record {
            room =
                let less = spared_only_if b scope entries (take (length scope) sizes) total apart z p o (get_or (get_or counts p []) o 0) hp here (tallied p o hp low) s in
                omega (arith, less, front p hp);
          });
    }
