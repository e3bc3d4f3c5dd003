-- The plans that wait in the pending boxes, as these are dropped and split. Assumes nothing.
use Rattle.std.proofs.Common.{◌≡◌, ℕ, zero, suc, ◌<◌, ◌≤◌, T, ◌≢◌, ◌⊎◌, List, [], ◌∷◌, length, get_or, sym, refl, ap, ◌∙◌, subst, inl, inr, ⊎_elim, arith}
use Rattle.std.proofs.lemmas.Bool.{cases_eq, cases_lt}
use Rattle.subject.specs.Problem.{Problem}
use Rattle.subject.specs.Boxes.{Box, Inside}
use Rattle.subject.specs.Decisions.{Decision, Largest}
use Rattle.subject.specs.Plans.{Plan, Meets, Before, First}
use Rattle.subject.proofs.Moments.{before_asym}
use Rattle.explore.specs.Pending.{Lies, Somewhere, Pending}
use Rattle.explore.specs.Split.{Split}
use Rattle.explore.proofs.Plans.{lies_inside, lies_largest}

-- a number below i + 1 is below i, or is i
pub below_or : (j i : ℕ) → j < suc i → (j < i) ⊎ (j ≡ i)
below_or j i h = ⊎_elim (λ k. inl k) (λ k. inr (omega arith)) (cases_lt j i)

-- the largest supported box within the decisions is all that is to be explored
pub pending_one : (P : Problem) (D : List Decision) (X : Box) (K : ℕ → Box) → Largest P D X → K 0 ≡ X → Pending P D [] K 1
pending_one P D X K big e =
    record {
      left = λ q m. (λ b. (0, omega arith, subst (λ Y. Lies P Y q) (sym e) (lies_largest P D q m X big)), λ w. tt);
      order = λ i j p q h k. absurd (omega arith);
    }

module _ (P : Problem) (D : List Decision) (G : List Plan) (K : ℕ → Box) (i : ℕ) (was : Pending P D G K (suc i)) where
  -- the uppermost box has no plan
  pub pending_none : ((q : Plan) → Meets P D q → Lies P (K i) q → ⊥) → Pending P D G K i
  pending_none empty =
      record {
        left = λ q m. (λ b. go q m ((was.left q m).0 b), λ w. (was.left q m).1 (w.0, omega (arith, w.1), w.2));
        order = λ j k p q h l. was.order j k p q h (omega arith);
      }
    where
      go : (q : Plan) → Meets P D q → Somewhere P K (suc i) q → Somewhere P K i q
      go q m w = ⊎_elim (λ h. (w.0, h, w.2)) (λ e. absurd (empty q m (subst (λ j. Lies P (K j) q) e w.2))) (below_or w.0 i w.1)

  -- the uppermost box has one plan: it is the next
  pub pending_plan : (p : Plan) → Meets P D p → Lies P (K i) p → ((q : Plan) → Meets P D q → Lies P (K i) q → q ≡ p) → First P D G p × Pending P D (p ∷ G) K i
  pending_plan p m here one = (
    record { meets = m; behind = (was.left p m).1 (i, omega arith, here); least = λ q n b. first q n ((was.left q n).0 b) },
    record {
      left = λ q n. (
        λ b. rest q n b.0 ((was.left q n).0 b.1),
        λ w. (was.order w.0 i p q w.1 (omega arith) here w.2, (was.left q n).1 (w.0, omega (arith, w.1), w.2)),
      );
      order = λ j k a b h l. was.order j k a b h (omega arith);
    },
  )
    where
      same : (q : Plan) → Meets P D q → (w : Somewhere P K (suc i) q) → w.0 ≡ i → q ≡ p
      same q n w e = one q n (subst (λ j. Lies P (K j) q) e w.2)

      first : (q : Plan) → Meets P D q → Somewhere P K (suc i) q → (p ≡ q) ⊎ Before p q
      first q n w = ⊎_elim (λ h. inr (was.order w.0 i p q h (omega arith) here w.2)) (λ e. inl (sym (same q n w e))) (below_or w.0 i w.1)

      rest : (q : Plan) → Meets P D q → Before p q → Somewhere P K (suc i) q → Somewhere P K i q
      rest q n b w =
          ⊎_elim
          (λ h. (w.0, h, w.2))
          (λ e. let c : Before p p = subst (λ z. Before p z) (same q n w e) b in absurd (before_asym p p c c))
          (below_or w.0 i w.1)

-- plans that are equal below slot s and differ there
before_at : (s : ℕ) (p q : Plan) → s < length p → s < length q → ((t : ℕ) → t < s → get_or p t 0 ≡ get_or q t 0) → get_or p s 0 < get_or q s 0 → Before p q
before_at s [] q a b f h = absurd (omega arith)
before_at s (x ∷ p) [] a b f h = absurd (omega arith)
before_at zero (x ∷ p) (y ∷ q) a b f h = inl h
before_at (suc s) (x ∷ p) (y ∷ q) a b f h = inr (f 0 (omega arith), before_at s p q (omega arith) (omega arith) (λ t k. f (suc t) (omega arith)) h)

-- The uppermost box, settled to C, is split.
module _ (K J : ℕ → Box) (i : ℕ) (C : Box) (A B : ℕ → ℕ) (cut : Split K J A B i C) (sub : Inside C (K i)) where
  rest_in : Inside (J i) C
  rest_in s o t = ((cut.rest s o).0 t).0

  first_in : Inside (J (suc i)) C
  first_in s o t = ((cut.first s o).0 t).0

  -- each new box lies in an old one, which is above what the new one is above
  pub new_in : (j : ℕ) → j < suc (suc i) → (k : ℕ) × (k < suc i) × ((l : ℕ) → l < j → l < i → l < k) × Inside (J j) (K k)
  new_in j lt =
      ⊎_elim
      (λ k. ⊎_elim
      (λ b. (j, omega arith, (λ l x y. x), λ s o z. subst (λ Y. T (Y s o)) (cut.below j b) z))
      (λ e. (i, omega arith, (λ l x y. y), λ s o z. sub s o (rest_in s o (subst (λ n. T (J n s o)) e z))))
      (below_or j i k))
      (λ e. (i, omega arith, (λ l x y. y), λ s o z. sub s o (first_in s o (subst (λ n. T (J n s o)) e z))))
      (below_or j (suc i) lt)

  module _ (P : Problem) (D : List Decision) (G : List Plan) (keeps : (q : Plan) → Meets P D q → Lies P (K i) q → Lies P C q) (there : cut.slot < length P.sizes)
      (was : Pending P D G K (suc i)) where
    chosen : (q : Plan) → Lies P (J (suc i)) q → get_or q cut.slot 0 ≡ cut.option
    chosen q h =
        ⊎_elim (λ e. e) (λ ne. absurd (((cut.first cut.slot _).0 (h.at cut.slot there)).1 (refl, ne))) (cases_eq (get_or q cut.slot 0) cut.option)

    sides : (q : Plan) → Lies P C q → Somewhere P J (suc (suc i)) q
    sides q h =
        ⊎_elim
        (λ e. (suc i, omega arith, record { long = h.long; at = λ t lt. (cut.first t _).1 (h.at t lt, λ z. z.1 (ap (λ u. get_or q u 0) z.0 ∙ e)) }))
        (λ ne. (i, omega arith, record { long = h.long; at = λ t lt. (cut.rest t _).1 (h.at t lt, λ z. ne (ap (λ u. get_or q u 0) (sym z.0) ∙ z.1)) }))
        (cases_eq (get_or q cut.slot 0) cut.option)

    down : (q : Plan) → Meets P D q → Somewhere P K (suc i) q → Somewhere P J (suc (suc i)) q
    down q m w =
        ⊎_elim
        (λ h. (w.0, omega arith, subst (λ Y. Lies P Y q) (sym (cut.below w.0 h)) w.2))
        (λ e. sides q (keeps q m (subst (λ j. Lies P (K j) q) e w.2)))
        (below_or w.0 i w.1)

    first_before : (p q : Plan) → Lies P (J (suc i)) p → Lies P (J i) q → Before p q
    first_before p q a b =
        let x = lies_inside P (J (suc i)) C p first_in a in
        let y = lies_inside P (J i) C q rest_in b in
        let s : ℕ = cut.slot in
        let e = chosen p a in
        let le : cut.option ≤ get_or q s 0 = cut.lowest (get_or q s 0) (y.at s there) in
        let ne : get_or q s 0 ≢ cut.option = λ z. ((cut.rest s (get_or q s 0)).0 (b.at s there)).1 (refl, z) in
        before_at s p q (omega (arith, x.long, there)) (omega (arith, y.long, there))
        (λ t lt. cut.sole t lt _ _ (x.at t (omega (arith, there))) (y.at t (omega (arith, there)))) (omega arith)

    ordered : (j k : ℕ) (p q : Plan) → j < k → k < suc (suc i) → Lies P (J k) p → Lies P (J j) q → Before p q
    ordered j k p q h l a b =
        ⊎_elim
        (λ lt.
        let v = new_in k l in
        was.order j v.0 p q (v.2 j h lt) v.1 (lies_inside P (J k) (K v.0) p v.3 a) (subst (λ Y. Lies P Y q) (cut.below j lt) b))
        (λ e.
        let f : k ≡ suc i = omega (arith, e) in
        first_before p q (subst (λ z. Lies P (J z) p) f a) (subst (λ z. Lies P (J z) q) e b))
        (below_or j i (omega arith))

    pub pending_split : Pending P D G J (suc (suc i))
    pending_split =
        record {
          left = λ q m. (
            λ b. down q m ((was.left q m).0 b),
            λ w. let v = new_in w.0 w.1 in (was.left q m).1 (v.0, v.1, lies_inside P (J w.0) (K v.0) q v.3 w.2),
          );
          order = ordered;
        }
