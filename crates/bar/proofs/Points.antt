-- The lists with one item of each of several lists: how many have a given item at a given place. Assumes nothing.
use Rattle.std.proofs.Common.{◌≡◌, ℕ, zero, suc, ◌*◌, ◌<◌, ◌≤◌, ◌⊎◌, List, [], ◌∷◌, ◌++◌, map, length, get_or, set, sym, refl, ap, ◌∙◌, subst, inl, inr, ⊎_elim, suc-mul, zero-mul, arith, length-append}
use mathlib.Core.List.{List-discrete}
use lib.ListN.{length-map}
use native.Mathlib.Decide.{ℕ_discrete}
use Rattle.bar.proofs.Pigeons.{Sub, fewer_spares, as_many_all}
use Rattle.bar.specs.Counted.{In, NoDup, product}

module _ {A : Type 0} where
  -- l has one item of each of the lists, in their order
  abbrev pub Chosen : List A → List (List A) → Type 0
  Chosen [] [] = Unit {0}
  Chosen [] (os ∷ oss) = ⊥
  Chosen (x ∷ l) [] = ⊥
  Chosen (x ∷ l) (os ∷ oss) = In x os × Chosen l oss

  -- each of os before each of ps
  abbrev spread : List A → List (List A) → List (List A)
  spread [] ps = []
  spread (o ∷ os) ps = map (λ l. o ∷ l) ps ++ spread os ps

  -- the lists with one item of each of the lists
  abbrev points : List (List A) → List (List A)
  points [] = [] ∷ []
  points (os ∷ oss) = spread os (points oss)

  -- each of the lists has no doubles
  abbrev pub Apiece : List (List A) → Type 0
  Apiece [] = Unit {0}
  Apiece (os ∷ oss) = NoDup os × Apiece oss

  in_left : (x : A) (s t : List A) → In x s → In x (s ++ t)
  in_left x [] t i = absurd i
  in_left x (y ∷ s) t (inl e) = inl e
  in_left x (y ∷ s) t (inr i) = inr (in_left x s t i)

  in_right : (x : A) (s t : List A) → In x t → In x (s ++ t)
  in_right x [] t i = i
  in_right x (y ∷ s) t i = inr (in_right x s t i)

  in_cases : (x : A) (s t : List A) → In x (s ++ t) → In x s ⊎ In x t
  in_cases x [] t i = inr i
  in_cases x (y ∷ s) t (inl e) = inl (inl e)
  in_cases x (y ∷ s) t (inr i) = ⊎_elim (λ j. inl (inr j)) (λ j. inr j) (in_cases x s t i)

  once_append : (s t : List A) → NoDup s → NoDup t → ((x : A) → In x s → In x t → ⊥) → NoDup (s ++ t)
  once_append [] t u v d = v
  once_append (x ∷ s) t u v d =
      (λ i. ⊎_elim u.0 (d x (inl refl)) (in_cases x s t i), once_append s t u.1 v (λ z i. d z (inr i)))

pub in_map : {A B : Type 0} (f : A → B) (x : A) (s : List A) → In x s → In (f x) (map f s)
in_map f x [] i = absurd i
in_map f x (y ∷ s) (inl e) = inl (ap f e)
in_map f x (y ∷ s) (inr i) = inr (in_map f x s i)

pub of_map : {A B : Type 0} (f : A → B) (z : B) (s : List A) → In z (map f s) → (x : A) × In x s × (z ≡ f x)
of_map f z [] i = absurd i
of_map f z (y ∷ s) (inl e) = (y, inl refl, e)
of_map f z (y ∷ s) (inr i) = let t = of_map f z s i in (t.0, inr t.1, t.2)

pub once_map : {A B : Type 0} (f : A → B) (s : List A) → ((x y : A) → In x s → In y s → f x ≡ f y → x ≡ y) → NoDup s → NoDup (map f s)
once_map f [] inj u = tt
once_map {A} f (x ∷ s) inj u = (
  λ i. let t = of_map f (f x) s i in
      u.0 (subst (λ (z : A). In z s) (sym (inj x t.0 (inl refl) (inr t.1) t.2)) t.1),
  once_map f s (λ y z i j. inj y z (inr i) (inr j)) u.1,
)

module _ {A : Type 0} where
  head_same : (x y : A) (s t : List A) → x ∷ s ≡ y ∷ t → x ≡ y
  head_same x y s t e = cc

  tail_same : (x y : A) (s t : List A) → x ∷ s ≡ y ∷ t → s ≡ t
  tail_same x y s t e = cc

  in_spread : (x : A) (l : List A) (os : List A) (ps : List (List A)) → In x os → In l ps → In (x ∷ l) (spread os ps)
  in_spread x l [] ps i j = absurd i
  in_spread x l (o ∷ os) ps (inl e) j =
      in_left (x ∷ l) (map (λ m. o ∷ m) ps) (spread os ps)
      (subst (λ (z : A). In (x ∷ l) (map (λ m. z ∷ m) ps)) e (in_map (λ m. x ∷ m) l ps j))
  in_spread x l (o ∷ os) ps (inr i) j = in_right (x ∷ l) (map (λ m. o ∷ m) ps) (spread os ps) (in_spread x l os ps i j)

  of_spread : (z : List A) (os : List A) (ps : List (List A)) → In z (spread os ps) → (x : A) × (l : List A) × In x os × In l ps × (z ≡ x ∷ l)
  of_spread z [] ps i = absurd i
  of_spread z (o ∷ os) ps i = ⊎_elim
      (λ j. let t = of_map (λ m. o ∷ m) z ps j in (o, t.0, inl refl, t.1, t.2))
      (λ j. let t = of_spread z os ps j in (t.0, t.1, inr t.2, t.3, t.4))
      (in_cases z (map (λ m. o ∷ m) ps) (spread os ps) i)

  once_spread : (os : List A) (ps : List (List A)) → NoDup os → NoDup ps → NoDup (spread os ps)
  once_spread [] ps u v = tt
  once_spread (o ∷ os) ps u v =
      once_append (map (λ m. o ∷ m) ps) (spread os ps)
      (once_map (λ m. o ∷ m) ps (λ x y i j e. tail_same o o x y e) v)
      (once_spread os ps u.1 v)
      (λ z i j. let s = of_map (λ m. o ∷ m) z ps i in let t = of_spread z os ps j in
      u.0 (subst (λ (y : A). In y os) (sym (head_same o t.0 s.0 t.1 (sym s.2 ∙ t.4))) t.2))

  long_spread : (os : List A) (ps : List (List A)) → length (spread os ps) ≡ length os * length ps
  long_spread [] ps = sym (zero-mul (length ps))
  long_spread (o ∷ os) ps =
      omega (arith, length-append (map (λ m. o ∷ m) ps) (spread os ps), length-map ps (λ m. o ∷ m), long_spread os ps, suc-mul (length os) (length ps))

  -- the points are the chosen lists
  pub in_points : (l : List A) (oss : List (List A)) → Chosen l oss → In l (points oss)
  in_points [] [] c = inl refl
  in_points [] (os ∷ oss) c = absurd c
  in_points (x ∷ l) [] c = absurd c
  in_points (x ∷ l) (os ∷ oss) c = in_spread x l os (points oss) c.0 (in_points l oss c.1)

  pub of_points : (l : List A) (oss : List (List A)) → In l (points oss) → Chosen l oss
  of_points l [] i = subst (λ (z : List A). Chosen z []) (sym (⊎_elim (λ e. e) (λ j. absurd j) i)) tt
  of_points l (os ∷ oss) i =
      let t = of_spread l os (points oss) i in
      subst (λ (z : List A). Chosen z (os ∷ oss)) (sym t.4) (t.2, of_points t.1 oss t.3)

  -- all different
  pub once_points : (oss : List (List A)) → Apiece oss → NoDup (points oss)
  once_points [] u = (λ i. i, tt)
  once_points (os ∷ oss) u = once_spread os (points oss) u.0 (once_points oss u.1)

  -- as many as the product
  pub long_points : (oss : List (List A)) → length (points oss) ≡ product (map length oss)
  long_points [] = refl
  long_points (os ∷ oss) = long_spread os (points oss) ∙ ap (λ n. length os * n) (long_points oss)

  -- one place fixed
  pub chosen_set : (l : List A) (oss : List (List A)) (p : ℕ) (o d : A) → Chosen l oss → p < length oss → get_or l p d ≡ o → Chosen l (set oss p (o ∷ []))
  chosen_set [] [] p o d c h e = absurd (omega arith)
  chosen_set [] (os ∷ oss) p o d c h e = absurd c
  chosen_set (x ∷ l) [] p o d c h e = absurd c
  chosen_set (x ∷ l) (os ∷ oss) zero o d c h e = (inl e, c.1)
  chosen_set (x ∷ l) (os ∷ oss) (suc p) o d c h e = (c.0, chosen_set l oss p o d c.1 (omega arith) e)

  pub set_chosen : (l : List A) (oss : List (List A)) (p : ℕ) (o d : A) → p < length oss → In o (get_or oss p []) → Chosen l (set oss p (o ∷ [])) → Chosen l oss × (get_or l p d ≡ o)
  set_chosen l [] p o d h i c = absurd (omega arith)
  set_chosen [] (os ∷ oss) zero o d h i c = absurd c
  set_chosen [] (os ∷ oss) (suc p) o d h i c = absurd c
  set_chosen (x ∷ l) (os ∷ oss) zero o d h i c =
      let e : x ≡ o = ⊎_elim (λ f. f) (λ j. absurd j) c.0 in
      ((subst (λ (z : A). In z os) (sym e) i, c.1), e)
  set_chosen (x ∷ l) (os ∷ oss) (suc p) o d h i c =
      let t = set_chosen l oss p o d (omega arith) i c.1 in
      ((c.0, t.0), t.1)

  pub once_set : (oss : List (List A)) (p : ℕ) (o : A) → Apiece oss → Apiece (set oss p (o ∷ []))
  once_set [] p o u = tt
  once_set (os ∷ oss) zero o u = ((λ i. i, tt), u.1)
  once_set (os ∷ oss) (suc p) o u = (u.0, once_set oss p o u.1)

  -- as many lists with o at p as the product of the other sizes
  pub long_set : (oss : List (List A)) (p : ℕ) (o : A) → map length (set oss p (o ∷ [])) ≡ set (map length oss) p 1
  long_set [] p o = refl
  long_set (os ∷ oss) zero o = refl
  long_set (os ∷ oss) (suc p) o = ap (λ ns. length os ∷ ns) (long_set oss p o)

-- how many lists have a given option at p: the product of the other sizes
abbrev pub others : List (List ℕ) → ℕ → ℕ
others oss p = product (set (map length oss) p 1)

-- Of the lists with one option of each of oss, and o at p, zs has some: without doubles, and nothing else. If they
-- are fewer than the product of the other sizes, some such list is not in zs; if not, each is. So for every number
-- of positions.
pub pigeonhole : (oss : List (List ℕ)) (p o : ℕ) (zs : List (List ℕ)) → Apiece oss → p < length oss → In o (get_or oss p [])
    → NoDup zs → ((l : List ℕ) → In l zs → Chosen l oss × (get_or l p 0 ≡ o))
    → (length zs < others oss p → (l : List ℕ) × Chosen l oss × (get_or l p 0 ≡ o) × (In l zs → ⊥))
    × (others oss p ≤ length zs → (l : List ℕ) → Chosen l oss → get_or l p 0 ≡ o → In l zs)
pigeonhole oss p o zs u h i once inside =
    let ys : List (List ℕ) = points (set oss p (o ∷ [])) in
    let long : length (points (set oss p (o ∷ []))) ≡ product (set (map length oss) p 1) = long_points (set oss p (o ∷ [])) ∙ ap product (long_set oss p o) in
    let sub : Sub zs (points (set oss p (o ∷ []))) = λ l j. let t = inside l j in in_points l (set oss p (o ∷ [])) (chosen_set l oss p o 0 t.0 h t.1) in (
      λ lt.
          let t = fewer_spares (List-discrete ℕ_discrete) (points (set oss p (o ∷ []))) zs (once_points (set oss p (o ∷ [])) (once_set oss p o u)) (omega arith) in
          let s = set_chosen t.0 oss p o 0 h i (of_points t.0 (set oss p (o ∷ [])) t.1) in
          (t.0, s.0, s.1, t.2),
      λ le l c e. as_many_all (List-discrete ℕ_discrete) (points (set oss p (o ∷ []))) zs once sub (omega arith) l
          (in_points l (set oss p (o ∷ [])) (chosen_set l oss p o 0 c h e)),
    )
