-- A list without doubles within another: counting its places tells whether it has all of them. Assumes nothing.
use Rattle.std.proofs.Common.{◌≡◌, suc, ◌<◌, ◌≤◌, ◌⊎◌, List, [], ◌∷◌, length, sym, refl, ap, ◌∙◌, subst, inl, inr, ⊎_elim, arith}
use Rattle.bar.specs.Counted.{In, NoDup}

module _ {A : Type 0} where
  -- what is in xs is in ys
  abbrev pub Sub : List A → List A → Type 0
  Sub xs ys = (x : A) → In x xs → In x ys

  -- ys with the place of x left out
  abbrev cut : (x : A) (ys : List A) → In x ys → List A
  cut x [] i = []
  cut x (y ∷ ys) (inl e) = ys
  cut x (y ∷ ys) (inr i) = y ∷ cut x ys i

  cut_long : (x : A) (ys : List A) (i : In x ys) → length ys ≡ suc (length (cut x ys i))
  cut_long x [] i = absurd i
  cut_long x (y ∷ ys) (inl e) = refl
  cut_long x (y ∷ ys) (inr i) = ap suc (cut_long x ys i)

  -- what is not x is still there
  cut_keeps : (x : A) (ys : List A) (i : In x ys) (z : A) → In z ys → (z ≡ x → ⊥) → In z (cut x ys i)
  cut_keeps x [] i z j ne = absurd j
  cut_keeps x (y ∷ ys) (inl e) z (inl f) ne = absurd (ne (f ∙ sym e))
  cut_keeps x (y ∷ ys) (inl e) z (inr j) ne = j
  cut_keeps x (y ∷ ys) (inr i) z (inl f) ne = inl f
  cut_keeps x (y ∷ ys) (inr i) z (inr j) ne = inr (cut_keeps x ys i z j ne)

  in_same : (x y : A) (zs : List A) → x ≡ y → In y zs → In x zs
  in_same x y zs e i = subst (λ (z : A). In z zs) (sym e) i

  -- a list without doubles that is within another is no longer
  pub sub_length : (xs ys : List A) → NoDup xs → Sub xs ys → length xs ≤ length ys
  sub_length [] ys u s = omega arith
  sub_length (x ∷ xs) ys u s =
      let i : In x ys = s x (inl refl) in
      let t : Sub xs (cut x ys i) = λ z j. cut_keeps x ys i z (s z (inr j)) (λ e. u.0 (in_same x z xs (sym e) j)) in
      omega (arith, cut_long x ys i, sub_length xs (cut x ys i) u.1 t)

  module _ (same : Discrete A) where
    within : (x : A) (zs : List A) → Dec (In x zs)
    within x [] = no (λ i. i)
    within x (z ∷ zs) = elim (same x z) [
      | yes e ↦ yes (inl e)
      | no ne ↦ elim (within x zs) [ yes i ↦ yes (inr i) | no ni ↦ no (⊎_elim ne ni) ]
    ]

    -- some item of ys is not in zs, or every one is
    pub spare : (ys zs : List A) → ((y : A) × In y ys × (In y zs → ⊥)) ⊎ Sub ys zs
    spare [] zs = inr (λ y i. absurd i)
    spare (y ∷ ys) zs = elim (within y zs) [
      | no ni ↦ inl (y, inl refl, ni)
      | yes i ↦ ⊎_elim (λ t. inl (t.0, inr t.1, t.2))
          (λ s. inr (λ x. ⊎_elim (λ e. in_same x y zs e i) (s x))) (spare ys zs)
    ]

    -- the pigeonhole: with fewer than the places, some item of ys is not in zs
    pub fewer_spares : (ys zs : List A) → NoDup ys → length zs < length ys → (y : A) × In y ys × (In y zs → ⊥)
    fewer_spares ys zs u h = ⊎_elim (λ t. t) (λ s. absurd (omega (arith, sub_length ys zs u s))) (spare ys zs)

    -- as many as the places: every item of ys is in zs
    pub as_many_all : (ys zs : List A) → NoDup zs → Sub zs ys → length ys ≤ length zs → Sub ys zs
    as_many_all ys zs u s h y i = elim (within y zs) [
      | yes j ↦ j
      | no nj ↦ absurd (omega (arith, sub_length (y ∷ zs) ys (nj, u) (λ x. ⊎_elim (λ e. in_same x y ys e i) (s x))))
    ]
