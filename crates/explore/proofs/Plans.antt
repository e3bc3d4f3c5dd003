-- Plans in boxes: settling loses none, and a settled box with one option in each slot is one. Assumes nothing.
use Rattle.std.proofs.Common.{◌≡◌, ℕ, ◌<◌, ◌&&◌, T, eqb, ltb, ◌↔◌, List, map, length, get_or, sym, refl, ap, ◌∙◌, subst, arith, eqb→eq, ltb→lt, lt→ltb}
use lib.Dec.{eqb_refl}
use lib.ListN.{length-map}
use Rattle.std.proofs.lemmas.List.{same_lists, get_or-map, get_or_default}
use Rattle.subject.specs.Problem.{Problem, Names}
use Rattle.subject.specs.Boxes.{Box, Inside, Supported, LargestIn}
use Rattle.subject.specs.Decisions.{Decision, Allowed, Within, Largest}
use Rattle.subject.specs.Plans.{Plan, Meets}
use Rattle.boxes.proofs.Counting.{both}
use Rattle.explore.specs.Pending.{Lies}
use Rattle.explore.specs.Narrow.{Sole}

-- the box with one plan
single : Plan → Box
single q s o = ltb s (length q) && eqb (get_or q s 0) o

single_is : (q : Plan) (s o : ℕ) → T (single q s o) ↔ ((s < length q) × (get_or q s 0 ≡ o))
unfolding single
single_is q s o =
    let b = both (ltb s (length q)) (eqb (get_or q s 0) o) in (
      λ t. (ltb→lt s (length q) (b.0 t).0, eqb→eq (get_or q s 0) o (b.0 t).1),
      λ h. b.1 (lt→ltb s (length q) h.0, subst (λ x. T (eqb (get_or q s 0) x)) h.1 (eqb_refl (get_or q s 0))),
    )

pub lies_inside : (P : Problem) (X Y : Box) (q : Plan) → Inside X Y → Lies P X q → Lies P Y q
lies_inside P X Y q f h = record { long = h.long; at = λ s lt. f s _ (h.at s lt) }

module _ (P : Problem) (D : List Decision) (q : Plan) (m : Meets P D q) where
  -- a plan that meets every sheet is a supported box
  single_supported : Supported P (single q)
  single_supported =
      record {
        placed = m.placed;
        real = λ s o t.
            let h = (single_is q s o).0 t in
            let k : s < length P.sizes = omega (arith, m.long, h.0) in
            (k, subst (λ x. x < get_or P.sizes s 0) h.1 (m.real s k));
        alive = λ s h. (get_or q s 0, (single_is q s (get_or q s 0)).1 (omega (arith, m.long), refl));
        held = λ s o k i t n.
            let h = (single_is q s o).0 t in
            let f : ℕ → ℕ = λ z. get_or q z 0 in
            let at : (j : ℕ) → j < length (P.scope k) → get_or (map f (P.scope k)) j 0 ≡ get_or q (get_or (P.scope k) j 0) 0 = λ j lt. get_or-map f (P.scope k) j 0 0 lt in (
              map f (P.scope k),
              m.admitted k n.0,
              (
                length-map (P.scope k) f,
                λ j lt. (single_is q (get_or (P.scope k) j 0) _).1 (omega (arith, m.placed k j _ (n.0, lt, refl), m.long), sym (at j lt)),
              ),
              at i n.1 ∙ ap f n.2 ∙ h.1,
            );
      }

  -- it lies in the largest supported box within the decisions
  pub lies_largest : (X : Box) → Largest P D X → Lies P X q
  lies_largest X big = record {
    long = m.long;
    at = λ s h. (big s _).1 (single q, single_supported, within, (single_is q s (get_or q s 0)).1 (omega (arith, m.long), refl));
  }
    where
      within : Within D (single q)
      within s o t = let z = (single_is q s o).0 t in subst (λ x. Allowed D s x) z.1 (m.allowed s (omega (arith, z.0, m.long)))

  -- settling a box does not lose it
  pub lies_settled : (X Y : Box) → LargestIn P X Y → Lies P X q → Lies P Y q
  lies_settled X Y big h =
      record {
        long = h.long;
        at = λ s lt.
            (big s (get_or q s 0)).1 (
              single q,
              single_supported,
              (λ t p k. let z = (single_is q t p).0 k in subst (λ x. T (X t x)) z.1 (h.at t (omega (arith, z.0, h.long)))),
              (single_is q s (get_or q s 0)).1 (omega (arith, h.long), refl),
            );
      }

-- a settled box with something open is supported
pub settled_supported : (P : Problem) (X Y : Box) → LargestIn P X Y → (s o : ℕ) → T (Y s o) → Supported P Y
settled_supported P X Y big s o t =
    let y = (big s o).0 t in
    record {
      placed = y.1.placed;
      real = λ s' o' t'. let z = (big s' o').0 t' in z.1.real s' o' z.3;
      alive = λ s' h. ((y.1.alive s' h).0, (big s' _).1 (y.0, y.1, y.2, (y.1.alive s' h).1));
      held = λ s' o' k i t' n.
          let w = (big s' o').0 t' in
          let l = w.1.held s' o' k i w.3 n in
          (l.0, l.1, (l.2.0, λ j h. (big _ _).1 (w.0, w.1, w.2, l.2.1 j h)), l.3);
    }

-- In a supported box with one option in each slot, and where every sheet names a slot, there is one plan, and it meets
-- every sheet.
module _ (P : Problem) (X : Box) (sole : (s : ℕ) → s < length P.sizes → Sole X s) where
  pub sole_meets : (D : List Decision) → ((k : ℕ) → k < P.sheets → 0 < length (P.scope k)) → Supported P X → Within D X → (p : Plan) → Lies P X p → Meets P D p
  sole_meets D named sup win p h =
      record {
        placed = sup.placed;
        long = h.long;
        real = λ s lt. (sup.real s _ (h.at s lt)).1;
        allowed = λ s lt. win s _ (h.at s lt);
        admitted = λ k lt.
            let s : ℕ = get_or (P.scope k) 0 0 in
            let n : Names P k 0 s = (lt, named k lt, refl) in
            let l = sup.held s (get_or p s 0) k 0 (h.at s (sup.placed k 0 s n)) n in
            let f : ℕ → ℕ = λ z. get_or p z 0 in
            let same : l.0 ≡ map f (P.scope k) =
            same_lists l.0 (map f (P.scope k)) (l.2.0 ∙ sym (length-map (P.scope k) f))
            (λ j d b.
            let c : j < length (P.scope k) = omega (arith, l.2.0) in
            let u : get_or (P.scope k) j 0 < length P.sizes = sup.placed k j _ (lt, c, refl) in
            get_or_default l.0 j d 0 b ∙ sole (get_or (P.scope k) j 0) u _ _ (l.2.1 j c) (h.at _ u) ∙ sym (get_or-map f (P.scope k) j 0 d c)) in
            subst (λ x. T (P.admits k x)) same l.1;
      }

  pub sole_one : (p q : Plan) → Lies P X p → Lies P X q → q ≡ p
  sole_one p q a b =
      same_lists q p (b.long ∙ sym a.long)
      (λ s d lt.
      let k : s < length P.sizes = omega (arith, b.long) in
      get_or_default q s d 0 lt ∙ sole s k _ _ (b.at s k) (a.at s k) ∙ sym (get_or_default p s d 0 (omega (arith, a.long))))
