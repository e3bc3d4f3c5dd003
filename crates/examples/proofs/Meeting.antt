-- The plans that the reckoner finds are the plans that meet all. Assumes nothing.
use Rattle.std.proofs.Common.{◌≡◌, ℕ, suc, ◌<◌, Bool, true, false, not, ◌&&◌, ◌||◌, T, eqb, ltb, ◌↔◌, List, [], ◌∷◌, length, get_or, sym, refl, ◌∙◌, ap₂, inl, inr, arith}
use Rattle.catalogue.specs.Checks.{same, has_list}
use Rattle.subject.specs.Problem.{Problem}
use Rattle.subject.specs.Boxes.{Box}
use Rattle.subject.specs.Decisions.{Decision, Allowed}
use Rattle.subject.specs.Plans.{Plan, Meets, Before}
use Rattle.examples.specs.Claims.{Plans}
use Rattle.examples.proofs.Tests.{below, and_is, or_is, eqb_is, ltb_is, not_is, below_is}
use Rattle.examples.proofs.Reckoner.{Table, any_list, listed, allows, placed}
use Rattle.examples.proofs.Finding.{suits, obeys, meets, no_plan, before, plans}
use Rattle.examples.proofs.Choices.{Picks, list_to}
use Rattle.examples.proofs.Listed.{listed_is, listed_long}
use Rattle.examples.proofs.Settled.{allows_is, placed_is}

module _ (P : Problem) (D : List Decision) where
  pub meets_is : (p : Plan) → T (meets P D p) ↔ Meets P D p
  unfolding meets
  meets_is p = (there, back)
    where
      fit : (s : ℕ) → T (suits P D p s) ↔ ((get_or p s 0 < get_or P.sizes s 0) × Allowed D s (get_or p s 0))
      fit s =
          let b = and_is (ltb (get_or p s 0) (get_or P.sizes s 0)) (allows D s (get_or p s 0)) in
          let l = ltb_is (get_or p s 0) (get_or P.sizes s 0) in
          let a = allows_is D s (get_or p s 0) in
          (λ t. (l.0 (b.0 t).0, a.0 (b.0 t).1), λ h. b.1 (l.1 h.0, a.1 h.1))

      first : T (placed P && (eqb (length p) (length P.sizes) && (below (length P.sizes) (suits P D p) && below P.sheets (obeys P p))))
          ↔ (T (placed P) × T (eqb (length p) (length P.sizes) && (below (length P.sizes) (suits P D p) && below P.sheets (obeys P p))))
      first = and_is (placed P) (eqb (length p) (length P.sizes) && (below (length P.sizes) (suits P D p) && below P.sheets (obeys P p)))

      second : T (eqb (length p) (length P.sizes) && (below (length P.sizes) (suits P D p) && below P.sheets (obeys P p)))
          ↔ (T (eqb (length p) (length P.sizes)) × T (below (length P.sizes) (suits P D p) && below P.sheets (obeys P p)))
      second = and_is (eqb (length p) (length P.sizes)) (below (length P.sizes) (suits P D p) && below P.sheets (obeys P p))

      third : T (below (length P.sizes) (suits P D p) && below P.sheets (obeys P p))
          ↔ (T (below (length P.sizes) (suits P D p)) × T (below P.sheets (obeys P p)))
      third = and_is (below (length P.sizes) (suits P D p)) (below P.sheets (obeys P p))

      there : T (meets P D p) → Meets P D p
      there t =
          let a = first.0 t in
          let b = second.0 a.1 in
          let c = third.0 b.1 in
          let s = (below_is (length P.sizes) (suits P D p)).0 c.0 in
          record {
            placed = (placed_is P).0 a.0;
            long = (eqb_is (length p) (length P.sizes)).0 b.0;
            real = λ z h. ((fit z).0 (s z h)).0;
            allowed = λ z h. ((fit z).0 (s z h)).1;
            admitted = (below_is P.sheets (obeys P p)).0 c.1;
          }

      back : Meets P D p → T (meets P D p)
      back m =
          let c = third.1 ((below_is (length P.sizes) (suits P D p)).1 (λ z h. (fit z).1 (m.real z h, m.allowed z h)), (below_is P.sheets (obeys P p)).1 m.admitted) in
          first.1 ((placed_is P).1 m.placed, second.1 ((eqb_is (length p) (length P.sizes)).1 m.long, c))

  -- where no plan passes, a plan that meets all does not
  pub no_plan_lem : (f : Plan → Bool) → T (no_plan P D f) → (p : Plan) → Meets P D p → T (f p) → ⊥
  unfolding no_plan
  no_plan_lem f t p m u =
      let every : Box = λ s o. true in
      let full : Table = listed every 0 P.sizes in
      let long : length full ≡ length P.sizes = listed_long every 0 P.sizes in
      let there : Picks full p = (m.long ∙ sym long, λ i h. let k : i < length P.sizes = omega (arith, long) in (listed_is P every i (get_or p i 0)).1 ((k, m.real i k), tt)) in
      (not_is (any_list (λ q. meets P D q && f q) full)).0 t
      (list_to (λ q. meets P D q && f q) full p there ((and_is (meets P D p) (f p)).1 ((meets_is p).1 m, u)))

pub before_is : (p q : Plan) → T (before p q) ↔ Before p q
before_is [] q = (λ t. t, λ t. t)
before_is (a ∷ p) [] = (λ t. t, λ t. t)
before_is (a ∷ p) (b ∷ q) =
    let o = or_is (ltb a b) (eqb a b && before p q) in
    let c = and_is (eqb a b) (before p q) in
    let r = before_is p q in (
      λ t. elim (o.0 t) [ inl h ↦ inl ((ltb_is a b).0 h) | inr h ↦ inr ((eqb_is a b).0 (c.0 h).0, r.0 (c.0 h).1) ],
      λ w. elim w [ inl h ↦ o.1 (inl ((ltb_is a b).1 h)) | inr h ↦ o.1 (inr (c.1 ((eqb_is a b).1 h.0, r.1 h.1))) ],
    )

pub same_is : (x y : List ℕ) → T (same x y) → x ≡ y
same_is [] [] t = refl
same_is [] (b ∷ y) t = absurd t
same_is (a ∷ x) [] t = absurd t
same_is (a ∷ x) (b ∷ y) t = let h = (and_is (eqb a b) (same x y)).0 t in ap₂ ◌∷◌ ((eqb_is a b).0 h.0) (same_is x y h.1)

has_list_lem : (p : Plan) (ps : List Plan) → T (has_list p ps) → (i : ℕ) × (i < length ps) × (get_or ps i [] ≡ p)
has_list_lem p [] t = absurd t
has_list_lem p (q ∷ ps) t = go (same p q) (same_is p q) (has_list_lem p ps) t
  where
    go : (b : Bool) → (T b → p ≡ q) → (T (has_list p ps) → (i : ℕ) × (i < length ps) × (get_or ps i [] ≡ p)) → T (b || has_list p ps)
        → (i : ℕ) × (i < length (q ∷ ps)) × (get_or (q ∷ ps) i [] ≡ p)
    go true e r u = (0, omega arith, sym (e tt))
    go false e r u = let w = r u in (suc w.0, omega (arith, w.1), w.2)

has_or : (p : Plan) (ps : List Plan) → (T (not (has_list p ps)) → ⊥) → T (has_list p ps)
has_or p ps f = go (has_list p ps) f
  where
    go : (b : Bool) → (T (not b) → ⊥) → T b
    go true g = tt
    go false g = g tt

pub plans_are : (P : Problem) (D : List Decision) (ps : List Plan) → T (plans P D ps) → Plans P D ps
unfolding plans
plans_are P D ps t =
    let out : Plan → Bool = λ p. not (has_list p ps) in
    let ordered : ℕ → Bool = λ j. below j (λ i. before (get_or ps i []) (get_or ps j [])) in
    let a = (and_is (below (length ps) (λ i. meets P D (get_or ps i []))) (no_plan P D out && below (length ps) ordered)).0 t in
    let b = (and_is (no_plan P D out) (below (length ps) ordered)).0 a.1 in
    record {
      meet = λ i h. (meets_is P D (get_or ps i [])).0 ((below_is (length ps) (λ z. meets P D (get_or ps z []))).0 a.0 i h);
      all = λ p m. has_list_lem p ps (has_or p ps (no_plan_lem P D out b.0 p m));
      order = λ i j h k. (before_is (get_or ps i []) (get_or ps j [])).0 ((below_is j (λ z. before (get_or ps z []) (get_or ps j []))).0 ((below_is (length ps) ordered).0 b.1 j k) i h);
    }
