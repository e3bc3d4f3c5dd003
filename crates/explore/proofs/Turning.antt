-- An exploration as it begins, takes a turn and ends. Assumes nothing.
use Rattle.std.proofs.Common.{◌≡◌, ℕ, suc, ◌+◌, ◌<◌, ◌≤◌, min, cond, nat_lt, T, refl, List, [], ◌∷◌, length, get_or, take, sym, ap, ◌∙◌, subst, subst₂, ⊎_elim, arith, length-take, get_or-take}
use Rattle.std.proofs.lemmas.Bool.{cases_lt}
use Rattle.subject.specs.Problem.{Problem, Placed}
use Rattle.subject.specs.Boxes.{Box, Inside, Supported, LargestIn}
use Rattle.subject.specs.Decisions.{Decision, Within, Largest}
use Rattle.subject.specs.Decisions as Subject
use Rattle.subject.specs.Plans.{Plan, First, NoMore}
use Rattle.subject.proofs.Largest.{largest_within}
use Rattle.subject.proofs.Standing.{open_real}
use Rattle.boxes.specs.Boxes.{opens, Bit, Some, Two}
use Rattle.boxes.proofs.Bits.{open_there}
use Rattle.boxes.proofs.Counting.{opens_is}
use Rattle.binder.specs.Meaning.{Binding, Proper, Noted}
use Rattle.settle.specs.Keeping.{Has, Keeps, Based}
use Rattle.settle.specs.Reach.{Covers, Resting}
use Rattle.settle.specs.Settled.{Settled}
use Rattle.settle.proofs.Scopes.{if_lt, if_not_lt}
use Rattle.settle.proofs.Keeping.{inside_cells, opens_low, keeps_less, backed_largest, backed_largest_in, based_same, covers_has, resting_based}
use Rattle.explore.specs.Pending.{Lies, Pending}
use Rattle.explore.specs.Narrow.{Sole}
use Rattle.explore.specs.Rewound.{Rewound}
use Rattle.explore.specs.Levels.{Returned}
use Rattle.explore.specs.Exploring.{Exploring}
use Rattle.explore.specs.Laid.{Laid}
use Rattle.explore.specs.Split.{Split}
use Rattle.explore.proofs.Plans.{lies_inside, lies_settled, settled_supported, sole_meets, sole_one}
use Rattle.explore.proofs.Waiting.{below_or, pending_one, pending_none, pending_plan, pending_split, new_in}
use Rattle.explore.proofs.Leveling.{has_sheets, framed_rewound, levels_begin, levels_back, levels_split}
use Rattle.explore.proofs.Stacking.{sole_from}

-- An exploration begins: the binder marks its level, and the one box to be explored is the largest.
pub exploring_begins : (P : Problem) (D : List Decision) (X : Box) (m n : Binding) (K : ℕ → Box) (A : ℕ → ℕ) → 0 < length P.sizes → m.marks + 49 ≤ 72
    → Has P m → Keeps P X m.kept → Largest P D X → ((s o : ℕ) → T (X s o) → s < 48) → Noted m n → K 0 ≡ X → Exploring P D [] X m K A 1 n
exploring_begins P D X m n K A some room has keeps big low noted e = record {
  some = some;
  largest = big;
  room = room;
  has = has_sheets P m n has noted.sheets;
  inside = λ i h s o t. let z : i ≡ 0 = omega arith in subst (λ Y. T (Y s o)) (ap K z ∙ e) t;
  bases = λ i. X;
  based = λ i h. let z : i ≡ 0 = omega arith in subst (λ Y. Based P X Y (A i)) (sym (ap K z ∙ e)) (based_same P X (A i) (backed_largest P D X big) low);
  levels = levels_begin P X m (λ i. X) n refl keeps noted;
  pending = pending_one P D X K big e;
}

-- An exploration is left: the marks of its boxes are undone.
pub exploring_left : (P : Problem) (D : List Decision) (G : List Plan) (X : Box) (m : Binding) (K : ℕ → Box) (A : ℕ → ℕ) (top : ℕ) (n o : Binding)
    → Exploring P D G X m K A top n → Rewound n o top → Returned P X m o
exploring_left P D G X m K A top n o was back =
    let e : top ≡ 0 + top = omega arith in
    let at = levels_back P X m was.bases top 0 top n o e was.levels back in
    record { has = has_sheets P n o was.has back.sheets; marks = omega (arith, at.marks); older = at.older; keeps = at.keeps }

-- No box is left to be explored.
pub exploring_over : (P : Problem) (D : List Decision) (G : List Plan) (X : Box) (m : Binding) (K : ℕ → Box) (A : ℕ → ℕ) (top : ℕ) (n : Binding)
    → top ≡ 0 → Exploring P D G X m K A top n → NoMore P D G
exploring_over P D G X m K A top n e was q mq b = let w = (was.pending.left q mq).0 b in omega (arith, w.1)

-- A turn: the uppermost box, number i, stands in the cells b and was settled to c, by which the binder n became k. After
-- the turn the binder is o, and the boxes J below t are to be explored.
module _ (K J : ℕ → Box) (A B : ℕ → ℕ) (masks : List ℕ) (top i t : ℕ) (n k o : Binding) (slots : ℕ) (b c : List ℕ) (high : top ≡ suc i) (next : opens b ≡ K i)
    (done : Settled n k masks (A i) slots b c) (long : length c ≡ 48) (P : Problem) (D : List Decision) (G : List Plan) (X : Box) (m : Binding) (size : length P.sizes ≡ slots) (covers : Covers P.sheets P.scope masks)
    (before : Exploring P D G X m K A top n) where
  was : Exploring P D G X m K A (suc i) n
  was = subst (λ z. Exploring P D G X m K A z n) high before

  settled_in : Inside (opens c) (K i)
  settled_in = subst (Inside (opens c)) next (inside_cells b c done.less)

  open_at : (s o : ℕ) → T (K i s o) → Subject.Open P D s o
  open_at s o t = (was.largest s o).0 (was.inside i (omega arith) s o t)

  based_b : Based P (was.bases i) (opens b) (A i)
  based_b = subst (λ Y. Based P (was.bases i) Y (A i)) (sym next) (was.based i (omega arith))

  keeps_b : Keeps P (opens b) n.kept
  keeps_b = keeps_less P (was.bases i) (opens b) n.kept based_b.inside was.levels.keeps

  rest_b : Resting n masks b (A i)
  rest_b = resting_based P n masks b (was.bases i) (A i) was.has was.levels.keeps (covers_has P n masks was.has covers) based_b

  largest_c : Placed P → LargestIn P (K i) (opens c)
  largest_c placed =
      subst (λ Y. LargestIn P Y (opens c)) next
      (done.largest P was.has size placed (λ s o h. open_real P D s o (open_at s o (subst (λ Y. T (Y s o)) next ((opens_is b s o).1 h)))) keeps_b (covers_has P n masks was.has covers) rest_b)

  -- where something is open, a supported box is, and so every slot that a sheet names
  placed_at : (s o : ℕ) → T (opens c s o) → Placed P
  placed_at s o t = (open_at s o (settled_in s o t)).1.placed

  -- the box is dropped
  module _ (same : J ≡ K) (alike : B ≡ A) (fewer : top ≡ t + 1) (back : Rewound k o 1) where
    dropped : (H : List Plan) → Pending P D H K i → Exploring P D H X m J B t o
    dropped H pending =
        let e : suc i ≡ i + 1 = omega arith in
        let f : i ≡ t = omega arith in
        let back-n : Rewound n o 1 = framed_rewound n k o done.framed (omega (arith, was.levels.marks)) back in
        subst₂ (λ L z. Exploring P D H X m L B z o) (sym same) f (subst (λ M. Exploring P D H X m K M i o) (sym alike)
        (record {
          some = was.some;
          largest = was.largest;
          room = was.room;
          has = has_sheets P n o was.has back-n.sheets;
          inside = λ j h. was.inside j (omega arith);
          bases = was.bases;
          based = λ j h. was.based j (omega arith);
          levels = levels_back P X m was.bases (suc i) i 1 n o e was.levels back-n;
          pending = pending;
        }))

    -- slot 0 has no open option left
    pub turn_dry : (Some c 0 → ⊥) → Exploring P D G X m J B t o
    turn_dry shut = dropped G (pending_none P D G K i was.pending (λ q mq h.
        let z = (lies_settled P D q mq (K i) (opens c) (largest_c mq.placed) h).at 0 was.some in
        shut (record { option = get_or q 0 0; is = (opens_is c 0 (get_or q 0 0)).0 z })))

    -- each slot has one open option
    pub turn_found : Proper n → Some c 0 → ((s : ℕ) → Two c s → ⊥) → (p : List ℕ) → Laid c p 48
        → First P D G (take (length P.sizes) p) × Exploring P D (take (length P.sizes) p ∷ G) X m J B t o
    turn_found proper some loose p laid =
        let here : T (opens c 0 some.option) = (opens_is c 0 some.option).1 some.is in
        let big = largest_c (placed_at 0 some.option here) in
        let sup = settled_supported P (K i) (opens c) big 0 some.option here in
        let few : (s : ℕ) → s < length P.sizes → s < 48 =
        λ s h. let a = sup.alive s h in omega (arith, open_there c s a.0 ((opens_is c s a.0).0 a.1)) in
        let sole : (s : ℕ) → s < length P.sizes → Sole (opens c) s = λ s h. sole_from c s (loose s) in
        let q : Plan = take (length P.sizes) p in
        let lies : Lies P (opens c) q = record { long = length-take (length P.sizes) p ∙ fits few; at = λ s h. at_slot sup s h (few s h) } in
        let within : Within D (opens c) = λ s o t. largest_within P D X was.largest s o (was.inside i (omega arith) s o (settled_in s o t)) in
        let meets = sole_meets P (opens c) sole D named sup within q lies in
        let both = pending_plan P D G K i was.pending q meets (lies_inside P (opens c) (K i) q settled_in lies)
        (λ r mr h. sole_one P (opens c) sole q r lies (lies_settled P D r mr (K i) (opens c) big h)) in
        (both.0, dropped (q ∷ G) both.1)
      where
        named : (j : ℕ) → j < P.sheets → 0 < length (P.scope j)
        named j h = subst (λ l. 0 < length l) (was.has.scope j) (omega (arith, proper.some j (subst (λ z. j < z) (sym was.has.sheets) h)))

        fits : ((s : ℕ) → s < length P.sizes → s < 48) → min (length P.sizes) (length p) ≡ length P.sizes
        fits few = ⊎_elim (λ h. absurd (let z = few 48 h in omega arith)) (λ h. omega (arith, laid.long)) (cases_lt 48 (length P.sizes))

        at_slot : Supported P (opens c) → (s : ℕ) → s < length P.sizes → s < 48 → T (opens c s (get_or (take (length P.sizes) p) s 0))
        at_slot sup s h lt =
            let a = sup.alive s h in
            let low = (laid.at s lt).lowest (record { option = a.0; is = (opens_is c s a.0).0 a.1 }) in
            subst (λ x. T (opens c s x)) (sym (get_or-take (length P.sizes) p s 0 h)) ((opens_is c s (get_or p s 0)).1 low.is)

  -- the boxes that the pending ones are based on after a split
  on : ℕ → Box
  on j = cond (nat_lt j i) (was.bases j) (opens c)

  on_below : (j : ℕ) → j < i → on j ≡ was.bases j
  unfolding on
  on_below j h = if_lt j i _ _ h

  on_above : (j : ℕ) → i ≤ j → on j ≡ opens c
  unfolding on
  on_above j h = if_not_lt j i _ _ h

  based_rest : LargestIn P (K i) (opens c) → (cut : Split K J A B i (opens c)) → Based P (opens c) (J i) (B i)
  based_rest big cut = record {
    inside = λ s q t. ((cut.rest s q).0 t).0;
    apart = λ s q ne t. (cut.rest s q).1 (t, λ e. ne (subst (Bit (B i)) (sym e.0) cut.lost_rest));
    backed = backed_largest_in P (K i) (opens c) big;
    low = opens_low c long;
  }

  based_first : LargestIn P (K i) (opens c) → (cut : Split K J A B i (opens c)) → Based P (opens c) (J (suc i)) (B (suc i))
  based_first big cut = record {
    inside = λ s q t. ((cut.first s q).0 t).0;
    apart = λ s q ne t. (cut.first s q).1 (t, λ e. ne (subst (Bit (B (suc i))) (sym e.0) cut.lost_first));
    backed = backed_largest_in P (K i) (opens c) big;
    low = opens_low c long;
  }

  -- a slot has several
  pub turn_split : t ≡ top + 1 → Split K J A B i (opens c) → Noted k o → Exploring P D G X m J B t o
  turn_split more cut noted =
      let real = open_real P D cut.slot cut.option (open_at cut.slot cut.option (settled_in cut.slot cut.option cut.here)) in
      let big = largest_c (placed_at cut.slot cut.option cut.here) in
      let f : suc (suc i) ≡ t = omega arith in
      subst (λ z. Exploring P D G X m J B z o) f
      (record {
        some = was.some;
        largest = was.largest;
        room = was.room;
        has = has_sheets P k o (has_sheets P n k was.has done.framed.sheets) noted.sheets;
        inside = λ j h s q t. let v = new_in K J i (opens c) A B cut settled_in j h in was.inside v.0 v.1 s q (v.3 s q t);
        bases = on;
        based = λ j h. ⊎_elim
            (λ l. ⊎_elim
            (λ lt. subst₂ (λ Z a. Based P Z (J j) a) (sym (on_below j lt)) (sym (cut.lost_below j lt)) (subst (λ Y. Based P (was.bases j) Y (A j)) (sym (cut.below j lt)) (was.based j (omega arith))))
            (λ e. subst (λ q. Based P (on q) (J q) (B q)) (sym e) (subst (λ Z. Based P Z (J i) (B i)) (sym (on_above i (omega arith))) (based_rest big cut)))
            (below_or j i l))
            (λ e. subst (λ q. Based P (on q) (J q) (B q)) (sym e) (subst (λ Z. Based P Z (J (suc i)) (B (suc i))) (sym (on_above (suc i) (omega arith))) (based_first big cut)))
            (below_or j (suc i) h);
        levels = levels_split P X m was.bases on i (opens c) n k o was.levels done.framed (done.keeps P was.has keeps_b) noted on_below
            (subst (λ Z. Inside Z (opens c)) (sym (on_above i (omega arith))) (λ s q t. t)) (subst (λ Z. Inside Z (opens c)) (sym (on_above (suc i) (omega arith))) (λ s q t. t));
        pending = pending_split K J i (opens c) A B cut settled_in P D G (λ q mq h. lies_settled P D q mq (K i) (opens c) big h) real.0 was.pending;
      })
