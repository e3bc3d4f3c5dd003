-- The boxes of the stack, as one is split. Assumes nothing.
use Rattle.std.proofs.Common.{◌≡◌, ℕ, suc, ◌+◌, ◌-◌, ◌<◌, ◌≤◌, T, ◌≢◌, ◌↔◌, Option, MatchOption, slice_get, take, List, [], map, length, get_or, set, sym, refl, ap, ◌∙◌, subst, subst₂, ⊎_elim, arith, length-set, get_or-set_other, get_or-set_same}
use mathlib.Core.Logic.{∥∥₁_elim, ∥∥₁_map}
use lib.ListN.{length-map}
use lib.Seq.{map-set}
use Rattle.std.proofs.lemmas.List.{get_or-map, length-take-le, get_or-take}
use Rattle.std.proofs.lemmas.Option.{slice_get_cases}
use Rattle.std.proofs.lemmas.Bool.{cases_eq, cases_lt, cases_order}
use Rattle.subject.specs.Boxes.{Box, Inside}
use Rattle.boxes.specs.Boxes.{Open, opens, Bit, Closed, Fixed, Least, Branching, Two}
use Rattle.boxes.specs.Slots.{Lone}
use Rattle.boxes.specs.declared.OptionBox.{OptionBox}
use Rattle.boxes.proofs.Bits.{open_low, open_same}
use Rattle.boxes.proofs.Counting.{opens_is, opened_lt}
use Rattle.explore.specs.Weight.{weight}
use Rattle.explore.specs.Narrow.{box_at, Sole, Narrow}
use Rattle.explore.specs.Split.{Split}
use Rattle.explore.specs.declared.stack.Stack.{Stack}
use Rattle.explore.proofs.Waiting.{below_or, new_in}
use Rattle.explore.proofs.Weights.{weight_split}

-- ---- boxes of an array

pub box_read : (boxes : List OptionBox) (i : ℕ) (d : OptionBox) → i < length boxes → opens (get_or boxes i d).cells ≡ box_at boxes i
unfolding box_at
box_read boxes i d h = ap opens (sym (get_or-map (λ (b : OptionBox). b.cells) boxes i d [] h))

pub box_set : (boxes : List OptionBox) (i : ℕ) (b : OptionBox) → i < length boxes → box_at (set boxes i b) i ≡ opens b.cells
unfolding box_at
box_set boxes i b h =
    let f : OptionBox → List ℕ = λ b. b.cells in
    ap opens (ap (λ l. get_or l i []) (map-set f boxes i b) ∙ get_or-set_same (map f boxes) i (f b) [] (subst (λ n. i < n) (sym (length-map boxes f)) h))

pub box_kept : (boxes : List OptionBox) (i j : ℕ) (b : OptionBox) → (j ≡ i → ⊥) → box_at (set boxes i b) j ≡ box_at boxes j
unfolding box_at
box_kept boxes i j b ne =
    let f : OptionBox → List ℕ = λ b. b.cells in
    ap opens (ap (λ l. get_or l j []) (map-set f boxes i b) ∙ get_or-set_other (map f boxes) i j (f b) [] ne)

-- the last of the first boxes, if there is one
pub last_box : (boxes : List OptionBox) (top : ℕ) (r : Option OptionBox) → top ≤ length boxes
    → r ≡ slice_get (take top boxes) (length (take top boxes) - 1) → MatchOption r (top ≡ 0) (λ b. (0 < top) × (opens b.cells ≡ box_at boxes (top - 1)))
last_box boxes top r fits e =
    let S : List OptionBox = take top boxes in
    let n : length S ≡ top = omega (arith, length-take-le top boxes (omega arith)) in
    ⊎_elim
    (λ w.
    let some : 0 < top = omega (arith, w.1, n) in
    let i : length S - 1 ≡ top - 1 = omega (arith, n) in
    let at : get_or boxes (top - 1) w.0 ≡ w.0 =
    sym (get_or-take top boxes (top - 1) w.0 (omega arith)) ∙ subst (λ k. get_or S k w.0 ≡ w.0) i w.3 in
    subst (λ o. MatchOption o (top ≡ 0) (λ b. (0 < top) × (opens b.cells ≡ box_at boxes (top - 1)))) (sym (e ∙ w.2))
    (some, sym (ap (λ (b : OptionBox). opens b.cells) at) ∙ box_read boxes (top - 1) w.0 (omega arith)))
    (λ w. subst (λ o. MatchOption o (top ≡ 0) (λ b. (0 < top) × (opens b.cells ≡ box_at boxes (top - 1)))) (sym (e ∙ w.1)) (omega (arith, w.0, n)))
    (slice_get_cases S (length S - 1)).1

-- ---- one option in each of the lower slots

pub narrow_low : (K : ℕ → Box) (top : ℕ) → top ≤ 1 → Narrow K top
narrow_low K top low = record { sole = λ i s h l. absurd (omega arith) }

pub narrow_fewer : (K : ℕ → Box) (top k : ℕ) → k ≤ top → Narrow K top → Narrow K k
narrow_fewer K top k h was = record { sole = λ i s l. was.sole i s (omega arith) }

-- no two options of a slot are open
pub sole_from : (b : List ℕ) (s : ℕ) → (Two b s → ⊥) → Sole (opens b) s
sole_from b s none o p t u =
    ⊎_elim
    (λ e. e)
    (⊎_elim
    (λ h. absurd (none (record { one = o; other = p; apart = h; first = (opens_is b s o).0 t; second = (opens_is b s p).0 u })))
    (λ h. absurd (none (record { one = p; other = o; apart = h; first = (opens_is b s p).0 u; second = (opens_is b s o).0 t }))))
    (cases_order o p)

two_apart : (b : List ℕ) (X : Box) (s : ℕ) → Inside (opens b) X → Two b s → Sole X s → ⊥
two_apart b X s sub w sole =
    let e = sole w.one w.other (sub s w.one ((opens_is b s w.one).1 w.first)) (sub s w.other ((opens_is b s w.other).1 w.second)) in
    let lt : w.one < w.other = w.apart in
    omega arith

-- the slot where box i is split is slot i or a later one
pub split_place : (K : ℕ → Box) (top i : ℕ) (b : List ℕ) (s : ℕ) → i < top → ∥ Narrow K top ∥₁ → Inside (opens b) (K i) → Two b s → i ≤ s
split_place K top i b s h narrow sub w =
    ⊎_elim
    (λ lt. absurd (∥∥₁_elim narrow (λ x y. absurd x) (λ n. two_apart b (K i) s sub w (n.sole i s h lt))))
    (λ ge. ge)
    (cases_lt s i)

module _ (K J : ℕ → Box) (i : ℕ) (C : Box) (A B : ℕ → ℕ) (cut : Split K J A B i C) (sub : Inside C (K i)) where
  -- where i + 1 is above the slot, the slot is the one with its option alone
  first_sole : (t : ℕ) → t < suc i → i ≤ cut.slot → Sole (J (suc i)) t
  first_sole t h le o p u v =
      ⊎_elim
      (λ lt. cut.sole t lt o p ((cut.first t o).0 u).0 ((cut.first t p).0 v).0)
      (λ ge.
      let e : t ≡ cut.slot = omega arith in
      alone o (subst (λ z. T (J (suc i) z o)) e u) ∙ sym (alone p (subst (λ z. T (J (suc i) z p)) e v)))
      (cases_lt t cut.slot)
    where
      alone : (q : ℕ) → T (J (suc i) cut.slot q) → q ≡ cut.option
      alone q z = ⊎_elim (λ e. e) (λ ne. absurd (((cut.first cut.slot q).0 z).1 (refl, ne))) (cases_eq q cut.option)

  narrow_split : i ≤ cut.slot → Narrow K (suc i) → Narrow J (suc (suc i))
  narrow_split le was = record {
    sole = λ j t h l. ⊎_elim
        (λ k. let v = new_in K J i C A B cut sub j h in λ o p u w. was.sole v.0 t v.1 (lower j t l k v.0 v.2) o p (v.3 t o u) (v.3 t p w))
        (λ e. subst (λ z. Sole (J z) t) (sym e) (first_sole t (omega arith) le))
        (below_or j (suc i) h);
  }
    where
      lower : (j t : ℕ) → t < j → j < suc i → (k : ℕ) → ((l : ℕ) → l < j → l < i → l < k) → t < k
      lower j t l h k f = f t l (omega arith)

  lighter_split : cut.slot < 48 → ((o : ℕ) → T (C cut.slot o) → o < 32) → weight J (suc (suc i)) < weight K (suc i)
  lighter_split there small =
      weight_split K J i cut.below
      (opened_lt (J i) (K i) cut.slot cut.option (λ t o z. sub t o ((cut.rest t o).0 z).0) there (small cut.option cut.here)
      (λ z. ((cut.rest cut.slot cut.option).0 z).1 (refl, refl)) (sub _ _ cut.here))
      (opened_lt (J (suc i)) (K i) cut.slot cut.other (λ t o z. sub t o ((cut.first t o).0 z).0) there (small cut.other cut.also)
      (λ z. ((cut.first cut.slot cut.other).0 z).1 (refl, cut.apart)) (sub _ _ cut.also))

-- ---- the two parts of a box

module _ (b : List ℕ) (s o : ℕ) where
  rest_is : (r : List ℕ) → Closed b r s o → (t p : ℕ) → T (opens r t p) ↔ (T (opens b t p) × ((t ≡ s) × (p ≡ o) → ⊥))
  rest_is r c t p = (
    λ z.
        let h = (opens_is r t p).0 z in
        ((opens_is b t p).1 (c.less t p h), λ e. c.here (subst₂ (Open r) e.0 e.1 h)),
    λ z. (opens_is r t p).1 (c.more t p z.1 ((opens_is b t p).0 z.0)),
  )

  part_is : (f : List ℕ) → Fixed b f s o → (t p : ℕ) → T (opens f t p) ↔ (T (opens b t p) × ((t ≡ s) × (p ≢ o) → ⊥))
  part_is f c t p = (
    λ z.
        let h = (opens_is f t p).0 z in
        ((opens_is b t p).1 (c.less t p h), λ e. e.1 (c.alone p (subst (λ u. Open f u p) e.0 h))),
    λ z.
        let h = (opens_is b t p).0 z.0 in
        (opens_is f t p).1 (⊎_elim
        (λ e. ⊎_elim
        (λ q. subst₂ (Open f) (sym e) (sym q) (c.here (subst₂ (Open b) e q h)))
        (λ nq. absurd (z.1 (e, nq)))
        (cases_eq p o))
        (λ ne. open_same b f t p (c.rest t ne) h)
        (cases_eq t s)),
  )

  -- another option than the lowest
  second : (w : Two b s) → (p : ℕ) × (p ≢ o) × Open b s p
  second w =
      let lt : w.one < w.other = w.apart in
      ⊎_elim (λ e. (w.other, (λ z. omega arith), w.second)) (λ ne. (w.one, ne, w.first)) (cases_eq w.one o)

-- ---- the stack after a split

-- the boxes of a stack with r in the place of the next box, and f above it
abbrev pub after : Stack → OptionBox → OptionBox → List OptionBox
after t r f = set (set t.boxes (t.top - 1) r) t.top f

-- the sets of lost slots of a stack, with one set in the place of the next and above it
abbrev pub lost_after : Stack → ℕ → List ℕ
lost_after t set-of = set (set t.lost (t.top - 1) set-of) t.top set-of

-- what a split of b into r and f, at the slot of a set, makes of the stack
pub record Divided (t : Stack) (b r f : OptionBox) (lost : ℕ) : Type 0 where
  pub split : Split (box_at t.boxes) (box_at (after t r f)) (λ i. get_or t.lost i 0) (λ i. get_or (lost_after t lost) i 0) (t.top - 1) (opens b.cells)
  pub narrow : ∥ Narrow (box_at (after t r f)) (t.top + 1) ∥₁
  pub less : weight (box_at (after t r f)) (t.top + 1) < weight (box_at t.boxes) t.top

-- the slot where the next box is split is not below its place, so that there is room for one more box
pub room : (t : Stack) (b : List ℕ) (s : ℕ) → 0 < t.top → Inside (opens b) (box_at t.boxes (t.top - 1)) → Branching b s → t.top < 49
room t b s some sub loose =
    let place = split_place (box_at t.boxes) t.top (t.top - 1) b s (omega arith) t.narrow sub loose.two in omega (arith, loose.small)

module _ (t : Stack) (b r f : OptionBox) (lost s o : ℕ) (lone : Lone lost s) (some : 0 < t.top) (sub : Inside (opens b.cells) (box_at t.boxes (t.top - 1)))
    (loose : Branching b.cells s) (low : Least b.cells s o) (closed : Closed b.cells r.cells s o) (fixed : Fixed b.cells f.cells s o) where
  place : t.top - 1 ≤ s
  place = split_place (box_at t.boxes) t.top (t.top - 1) b.cells s (omega arith) t.narrow sub loose.two

  at_rest : box_at (after t r f) (t.top - 1) ≡ opens r.cells
  at_rest =
      let h : t.top - 1 < length t.boxes = omega (arith, place, loose.small, t.tall.1) in
      box_kept (set t.boxes (t.top - 1) r) t.top (t.top - 1) f (λ e. omega arith) ∙ box_set t.boxes (t.top - 1) r h

  at_first : box_at (after t r f) (suc (t.top - 1)) ≡ opens f.cells
  at_first =
      let e : suc (t.top - 1) ≡ t.top = omega arith in
      let h : t.top < length (set t.boxes (t.top - 1) r) = rw length-set (omega (arith, place, loose.small, t.tall.1)) in
      ap (box_at (after t r f)) e ∙ box_set (set t.boxes (t.top - 1) r) t.top f h

  lost_at_rest : get_or (lost_after t lost) (t.top - 1) 0 ≡ lost
  lost_at_rest =
      get_or-set_other (set t.lost (t.top - 1) lost) t.top (t.top - 1) lost 0 (λ e. omega arith)
      ∙ get_or-set_same t.lost (t.top - 1) lost 0 (omega (arith, place, loose.small, t.even))

  lost_at_first : get_or (lost_after t lost) (suc (t.top - 1)) 0 ≡ lost
  lost_at_first =
      let e : suc (t.top - 1) ≡ t.top = omega arith in
      ap (λ i. get_or (lost_after t lost) i 0) e ∙ get_or-set_same (set t.lost (t.top - 1) lost) t.top lost 0 (rw length-set (omega (arith, place, loose.small, t.even)))

  splits : Split (box_at t.boxes) (box_at (after t r f)) (λ i. get_or t.lost i 0) (λ i. get_or (lost_after t lost) i 0) (t.top - 1) (opens b.cells)
  splits =
      let p = second b.cells s o loose.two in
      record {
        slot = s;
        option = o;
        sole = λ u h. sole_from b.cells u (loose.fixed u h);
        here = (opens_is b.cells s o).1 low.is;
        lowest = λ q h. low.least q ((opens_is b.cells s q).0 h);
        other = p.0;
        apart = p.1;
        also = (opens_is b.cells s p.0).1 p.2;
        below = λ j h. box_kept (set t.boxes (t.top - 1) r) t.top j f (λ e. omega arith) ∙ box_kept t.boxes (t.top - 1) j r (λ e. omega arith);
        rest = subst (λ Y. (u p : ℕ) → T (Y u p) ↔ (T (opens b.cells u p) × ((u ≡ s) × (p ≡ o) → ⊥))) (sym at_rest)
            (rest_is b.cells s o r.cells closed);
        first = subst (λ Y. (u p : ℕ) → T (Y u p) ↔ (T (opens b.cells u p) × ((u ≡ s) × (p ≢ o) → ⊥))) (sym at_first)
            (part_is b.cells s o f.cells fixed);
        lost_below = λ j h. get_or-set_other (set t.lost (t.top - 1) lost) t.top j lost 0 (λ e. omega arith) ∙ get_or-set_other t.lost (t.top - 1) j lost 0 (λ e. omega arith);
        lost_rest = subst (λ n. Bit n s) (sym lost_at_rest) (lone.here loose.small);
        lost_first = subst (λ n. Bit n s) (sym lost_at_first) (lone.here loose.small);
      }

  pub divided : Divided t b r f lost
  unfolding splits
  divided =
      let more : suc (suc (t.top - 1)) ≡ t.top + 1 = omega arith in
      let high : suc (t.top - 1) ≡ t.top = omega arith in
      let small : (q : ℕ) → T (opens b.cells s q) → q < 32 = λ q h. open_low b.cells s q ((opens_is b.cells s q).0 h) in
      record {
        split = splits;
        narrow = subst (λ k. ∥ Narrow (box_at (after t r f)) k ∥₁) more
            (∥∥₁_map t.narrow (λ n. narrow_split _ _ (t.top - 1) (opens b.cells) _ _ splits sub place (subst (Narrow (box_at t.boxes)) (sym high) n)));
        less = subst₂ (λ x y. weight (box_at (after t r f)) x < weight (box_at t.boxes) y) more high
            (lighter_split _ _ (t.top - 1) (opens b.cells) _ _ splits sub loose.small small);
      }
