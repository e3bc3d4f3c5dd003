-- What begin, next and end do to a walk and its log. Assumes nothing.
use Rattle.std.proofs.Common.{◌≡◌, ℕ, ◌+◌, ◌<◌, ◌≤◌, List, [], ◌∷◌, ◌++◌, length, take, drop, Ok, Err, sym, refl, ap, ◌∙◌, subst, subst₂, arith, length-take}
use Rattle.std.proofs.lemmas.List.{take_at}
use Rattle.subject.specs.declared.refusal.Refusal.TheVariants.{ShortMemory}
use Rattle.subject.specs.Problem.{Problem}
use Rattle.subject.specs.Boxes.{Box}
use Rattle.subject.specs.Decisions.{Decision}
use Rattle.subject.specs.Plans.{Plan, First, NoMore}
use Rattle.subject.specs.Logs.{Log, calls, Refuses, given, begin, end, next}
use Rattle.subject.specs.Logs.{refuses, next_short, begin_done, end_done, next_plan, next_none}
use Rattle.subject.proofs.Standing.{free_begin, free_end, free_next, stand_refused, stand_decided}
use Rattle.boxes.specs.Boxes.{opens}
use Rattle.binder.specs.declared.binders.Binder.{Ghosts}
use Rattle.binder.specs.Meaning.{Binding, Noted}
use Rattle.explore.specs.Exploring.{Exploring}
use Rattle.settle.specs.Reach.{masks_of, Covers}
use Rattle.explore.specs.Stacks.{height, pending, lost_of, weight_of}
use Rattle.explore.specs.Levels.{Returned}
use Rattle.explore.specs.Outcomes.{IfEmpty, Turned}
use Rattle.explore.specs.declared.stack.Stack.{Stack}
use Rattle.explore.specs.declared.outcome.Outcome.{Outcome}
use Rattle.explore.specs.declared.outcome.Outcome.TheVariants.{Empty, Dry, Split, Found}
use Rattle.settle.proofs.Keeping.{opens_low}
use Rattle.explore.proofs.Turning.{exploring_begins}
use Rattle.planner.specs.Answers.{begin_entry, next_entry, end_entry}
use Rattle.planner.specs.States.{Saved, After}
use Rattle.planner.specs.Walks.{At, Goes, Walking}
use Rattle.planner.specs.declared.state.Planner.{Planner}
use Rattle.planner.specs.declared.state.Walk.{Walk}
use Rattle.planner.specs.declared.step.State.{State}
use Rattle.planner.specs.declared.step.State.TheVariants.{Fresh, AtPlan, Spent}
use Rattle.planner.specs.declared.step.Step.TheVariants.{Plan as ThePlan, NoPlan}
use Rattle.planner.proofs.Steps.{saved_marked}

-- the state says the same of another stack, unless the walk is spent
at_on : (s : State) (G : List Plan) (t u : ℕ) → (s ≡ Spent → ⊥) → At s G t → At s G u
at_on Fresh G t u ne h = h
at_on AtPlan G t u ne h = h
at_on Spent G t u ne h = absurd (ne refl)

module _ {B : Type 0} {bound : Ghosts B} (meaning : B → Binding) (P : Problem) where
  -- the number of slots, as the problem and the walk have it
  pub walk_slots : (D : List Decision) (G : List Plan) (w : Walk B bound) → Goes meaning P D G w → length P.sizes ≡ w.planner.slots.count
  walk_slots D G w go = ap length go.sizes ∙ rw length-take (let k = w.planner.slots.few in let h = w.planner.slots.long in omega arith)

  -- A walk begins.
  pub begun : (L : Log) (p : Planner B bound) (w : Walk B bound) (m : Binding) → w.planner.slots ≡ p.slots → w.planner.reach ≡ p.reach → w.planner.saved ≡ p.saved → w.planner.depth ≡ p.depth → w.planner.slate ≡ p.slate
      → w.state ≡ Fresh → m ≡ meaning p.binder → Noted m (meaning w.planner.binder) → height w.stack ≡ 1 → pending w.stack 0 ≡ opens p.slate.cells
      → After meaning P L p → Walking meaning P (begin_entry ∷ L) w
  begun L p w m es er ev ed el eb em noted one first a =
      let D = a.decisions in
      let st = a.stands in
      let room : m.marks + 49 ≤ 72 = omega (arith, ap (λ x. x.marks) em, st.marks, p.deep) in
      let first-box = exploring_begins P D (opens p.slate.cells) m (meaning w.planner.binder) (pending w.stack) (lost_of w.stack) st.some room
      (subst (λ x. Rattle.settle.specs.Keeping.Has P x) (sym em) st.has) (subst (λ x. Rattle.settle.specs.Keeping.Keeps P (opens p.slate.cells) x.kept) (sym em) st.keeps) st.largest (opens_low p.slate.cells p.slate.long) noted first in
      record {
        lawful = (a.lawful, a.outside, (D, a.standing, begin_done));
        within = refl;
        decisions = D;
        standing = stand_decided P D (calls L) begin a.standing (free_begin P D);
        goes = record {
          sizes = st.sizes ∙ ap (λ x. take x.count x.sizes) (sym es);
          covers = subst (λ x. Covers P.sheets P.scope (masks_of x)) (sym er) st.covers;
          from = m;
          marks = ap (λ x. x.marks) em ∙ st.marks ∙ sym ed;
          saved = subst₂ (λ x y. Saved P D x m.marked y) (sym ev) (sym ed) (subst (λ x. Saved P D p.saved x.marked p.depth) (sym em) st.saved);
          exploring = subst₂ (λ b n. Exploring P D [] (opens b.cells) m (pending w.stack) (lost_of w.stack) n (meaning w.planner.binder)) (sym el) (sym one) first-box;
          at = subst (λ s. At s [] (height w.stack)) (sym eb) refl;
        };
      }

  -- The exploring goes on under a walk whose planner is otherwise the same.
  pub carried : (D : List Decision) (G H : List Plan) (w v : Walk B bound) → v.planner.slots ≡ w.planner.slots → v.planner.reach ≡ w.planner.reach → v.planner.saved ≡ w.planner.saved → v.planner.depth ≡ w.planner.depth
      → v.planner.slate ≡ w.planner.slate → (go : Goes meaning P D G w)
      → Exploring P D H (opens w.planner.slate.cells) go.from (pending v.stack) (lost_of v.stack) (height v.stack) (meaning v.planner.binder) → At v.state H (height v.stack) → Goes meaning P D H v
  carried D G H w v es er ev ed el go s at = record {
    sizes = go.sizes ∙ ap (λ x. take x.count x.sizes) (sym es);
    covers = subst (λ x. Covers P.sheets P.scope (masks_of x)) (sym er) go.covers;
    from = go.from;
    marks = go.marks ∙ sym ed;
    saved = subst₂ (λ x y. Saved P D x go.from.marked y) (sym ev) (sym ed) go.saved;
    exploring = subst (λ b. Exploring P D H (opens b.cells) go.from (pending v.stack) (lost_of v.stack) (height v.stack) (meaning v.planner.binder)) (sym el) s;
    at = at;
  }

  -- A memory that is too short is refused.
  pub short_stays : (L : Log) (w : Walk B bound) (n : ℕ) (p : List ℕ) → n < w.planner.slots.count → Walking meaning P L w → Walking meaning P (next_entry n p (Err ShortMemory) ∷ L) w
  short_stays L w n p h a =
      let D = a.decisions in
      let r : Refuses P D (next n) 26 = next_short (let e = walk_slots D (given L) w a.goes in omega arith) in
      record {
        lawful = (a.lawful, a.within, (D, a.standing, refuses r));
        within = a.within;
        decisions = D;
        standing = stand_refused P D (calls L) (next n) 26 a.standing r;
        goes = a.goes;
      }

  -- There is no plan left.
  pub none_given : (L : Log) (w v : Walk B bound) (n : ℕ) (p : List ℕ) → w.planner.slots.count ≤ n → (a : Walking meaning P L w) → NoMore P a.decisions (given L) → Goes meaning P a.decisions (given L) v
      → Walking meaning P (next_entry n p (Ok NoPlan) ∷ L) v
  none_given L w v n p h a no_more go =
      let D = a.decisions in
      let room : length P.sizes ≤ n = (let e = walk_slots D (given L) w a.goes in omega arith) in
      record {
        lawful = (a.lawful, a.within, (D, a.standing, next_none room no_more));
        within = a.within;
        decisions = D;
        standing = stand_decided P D (calls L) (next n) a.standing (λ i r. free_next P D n i room r);
        goes = go;
      }

  -- The next plan is given.
  pub plan_given : (L : Log) (w v : Walk B bound) (n k : ℕ) (p : Plan) → w.planner.slots.count ≤ n → (a : Walking meaning P L w) → First P a.decisions (given L) p → Goes meaning P a.decisions (p ∷ given L) v
      → Walking meaning P (next_entry n p (Ok (ThePlan k)) ∷ L) v
  plan_given L w v n k p h a first go =
      let D = a.decisions in
      let room : length P.sizes ≤ n = (let e = walk_slots D (given L) w a.goes in omega arith) in
      record {
        lawful = (a.lawful, a.within, (D, a.standing, next_plan room first));
        within = a.within;
        decisions = D;
        standing = stand_decided P D (calls L) (next n) a.standing (λ i r. free_next P D n i room r);
        goes = go;
      }

  -- The walk ends.
  pub ended : (L : Log) (w : Walk B bound) (p : Planner B bound) → p.slots ≡ w.planner.slots → p.reach ≡ w.planner.reach → p.saved ≡ w.planner.saved → p.depth ≡ w.planner.depth → p.slate ≡ w.planner.slate
      → ((D : List Decision) (G : List Plan) (m : Binding) → Exploring P D G (opens w.planner.slate.cells) m (pending w.stack) (lost_of w.stack) (height w.stack) (meaning w.planner.binder)
      → Returned P (opens w.planner.slate.cells) m (meaning p.binder))
      → Walking meaning P L w → After meaning P (end_entry ∷ L) p
  ended L w p es er ev ed el leave a =
      let D = a.decisions in
      let go = a.goes in
      let back = leave D (given L) go.from go.exploring in
      record {
        lawful = (a.lawful, a.within, (D, a.standing, end_done));
        outside = refl;
        decisions = D;
        standing = stand_decided P D (calls L) end a.standing (free_end P D);
        stands = record {
          sizes = go.sizes ∙ ap (λ x. take x.count x.sizes) (sym es);
          covers = subst (λ x. Covers P.sheets P.scope (masks_of x)) (sym er) go.covers;
          some = go.exploring.some;
          has = back.has;
          largest = subst (λ b. Rattle.subject.specs.Decisions.Largest P D (opens b.cells)) (sym el) go.exploring.largest;
          keeps = subst (λ b. Rattle.settle.specs.Keeping.Keeps P (opens b.cells) (meaning p.binder).kept) (sym el) back.keeps;
          marks = back.marks ∙ go.marks ∙ sym ed;
          saved = subst₂ (λ x y. Saved P D x (meaning p.binder).marked y) (sym ev) (sym ed)
              (saved_marked P D w.planner.saved go.from.marked (meaning p.binder).marked w.planner.depth (λ i s lt. back.older i s (omega (arith, go.marks))) go.saved);
        };
      }

-- The walk v came from w by turns that found nothing yet.
pub record Turning {B : Type 0} {bound : Ghosts B} (meaning : B → Binding) (w v : Walk B bound) : Type 0 where
  pub slots : v.planner.slots ≡ w.planner.slots
  pub goes : (P : Problem) (D : List Decision) (G : List Plan) → Goes meaning P D G w → Goes meaning P D G v

pub turning_none : {B : Type 0} {bound : Ghosts B} (meaning : B → Binding) (w : Walk B bound) → Turning meaning w w
turning_none meaning w = record { slots = refl; goes = λ P D G go. go }

-- no box, no weight
no_weight_lem : (t u : Stack) → height t ≡ 0 → weight_of u < weight_of t → ⊥
no_weight_lem t u e h = let z : weight_of t ≡ 0 = ap (λ n. Rattle.explore.specs.Weight.weight (pending t) n) e in omega arith

-- One more turn of a walk that came from w0: it was w, its outcome was r, and it is v.
module _ {B : Type 0} {bound : Ghosts B} (meaning : B → Binding) (w0 w v : Walk B bound) (r : Outcome) (was : Turning meaning w0 w) (es : v.planner.slots ≡ w.planner.slots) (er : v.planner.reach ≡ w.planner.reach) (ev : v.planner.saved ≡ w.planner.saved)
    (ed : v.planner.depth ≡ w.planner.depth) (el : v.planner.slate ≡ w.planner.slate)
    (law : (P : Problem) (D : List Decision) (G : List Plan) (X : Box) (m : Binding) → length P.sizes ≡ w0.planner.slots.count → Covers P.sheets P.scope (masks_of w.planner.reach)
    → Exploring P D G X m (pending w.stack) (lost_of w.stack) (height w.stack) (meaning w.planner.binder) → Turned P D G X m r (pending v.stack) (lost_of v.stack) (height v.stack) (meaning v.planner.binder))
    (less : IfEmpty r ((height w.stack ≡ 0) × (v.stack ≡ w.stack) × (v.planner.binder ≡ w.planner.binder)) (weight_of v.stack < weight_of w.stack)) where
  -- what the turn gave
  gave : (P : Problem) (D : List Decision) (G : List Plan) (go : Goes meaning P D G w0)
      → Turned P D G (opens w.planner.slate.cells) (was.goes P D G go).from r (pending v.stack) (lost_of v.stack) (height v.stack) (meaning v.planner.binder)
  gave P D G go = law P D G _ _ (walk_slots meaning P D G w0 go) (was.goes P D G go).covers (was.goes P D G go).exploring

  -- nothing yet
  turn_on : ((P : Problem) (D : List Decision) (G : List Plan) (X : Box) (m : Binding) → Turned P D G X m r (pending v.stack) (lost_of v.stack) (height v.stack) (meaning v.planner.binder)
      → Exploring P D G X m (pending v.stack) (lost_of v.stack) (height v.stack) (meaning v.planner.binder))
      → v.state ≡ w.state → (w.state ≡ Spent → ⊥) → Turning meaning w0 v
  turn_on still e ne = record {
    slots = es ∙ was.slots;
    goes = λ P D G go.
        let go' = was.goes P D G go in
        carried meaning P D G G w v es er ev ed el go' (still P D G (opens w.planner.slate.cells) go'.from (gave P D G go))
        (subst (λ s. At s G (height v.stack)) (sym e) (at_on w.state G (height w.stack) (height v.stack) ne go'.at));
  }

  pub turn_dry : r ≡ Dry → v.state ≡ w.state → (w.state ≡ Spent → ⊥) → Turning meaning w0 v
  turn_dry e = turn_on (λ P D G X m t. subst (λ x. Turned P D G X m x (pending v.stack) (lost_of v.stack) (height v.stack) (meaning v.planner.binder)) e t)

  pub turn_split : r ≡ Split → v.state ≡ w.state → (w.state ≡ Spent → ⊥) → Turning meaning w0 v
  turn_split e = turn_on (λ P D G X m t. subst (λ x. Turned P D G X m x (pending v.stack) (lost_of v.stack) (height v.stack) (meaning v.planner.binder)) e t)

  -- no box was left to explore, so there is no plan left
  pub turn_empty : r ≡ Empty → v.state ≡ Spent → (P : Problem) (L : Log) (n : ℕ) (p : List ℕ) → w0.planner.slots.count ≤ n → Walking meaning P L w0 → Walking meaning P (next_entry n p (Ok NoPlan) ∷ L) v
  turn_empty e spent P L n p room a =
      let D = a.decisions in
      let go' = was.goes P D (given L) a.goes in
      let t : Turned P D (given L) (opens w.planner.slate.cells) go'.from Empty (pending v.stack) (lost_of v.stack) (height v.stack) (meaning v.planner.binder) =
      subst (λ x. Turned P D (given L) (opens w.planner.slate.cells) go'.from x (pending v.stack) (lost_of v.stack) (height v.stack) (meaning v.planner.binder)) e (gave P D (given L) a.goes) in
      let same = subst (λ x. IfEmpty x ((height w.stack ≡ 0) × (v.stack ≡ w.stack) × (v.planner.binder ≡ w.planner.binder)) (weight_of v.stack < weight_of w.stack)) e less in
      none_given meaning P L w0 v n p room a t.0
      (carried meaning P D (given L) (given L) w v es er ev ed el go' t.1 (subst (λ s. At s (given L) (height v.stack)) (sym spent) (ap height same.1 ∙ same.0)))

  -- a plan was found
  pub turn_found : (k : ℕ) (p q : List ℕ) → r ≡ Found q → v.state ≡ AtPlan → (P : Problem) (L : Log) (n : ℕ) → w0.planner.slots.count ≤ n → p ≡ take w0.planner.slots.count q → Walking meaning P L w0
      → Walking meaning P (next_entry n p (Ok (ThePlan k)) ∷ L) v
  turn_found k p q e state P L n room same a =
      let D = a.decisions in
      let go' = was.goes P D (given L) a.goes in
      let t : Turned P D (given L) (opens w.planner.slate.cells) go'.from (Found q) (pending v.stack) (lost_of v.stack) (height v.stack) (meaning v.planner.binder) =
      subst (λ x. Turned P D (given L) (opens w.planner.slate.cells) go'.from x (pending v.stack) (lost_of v.stack) (height v.stack) (meaning v.planner.binder)) e (gave P D (given L) a.goes) in
      let is : take (length P.sizes) q ≡ p = ap (λ k. take k q) (walk_slots meaning P D (given L) w0 a.goes) ∙ sym same in
      plan_given meaning P L w0 v n k p room a (subst (First P D (given L)) is t.0)
      (carried meaning P D (given L) (p ∷ given L) w v es er ev ed el go'
      (subst (λ x. Exploring P D (x ∷ given L) (opens w.planner.slate.cells) go'.from (pending v.stack) (lost_of v.stack) (height v.stack) (meaning v.planner.binder)) is t.1)
      (subst (λ s. At s (p ∷ given L) (height v.stack)) (sym state) (omega arith)))

-- a spent walk stays as it is: the turn finds no box
pub turn_spent : {B : Type 0} {bound : Ghosts B} (meaning : B → Binding) (w0 w v : Walk B bound) (r : Outcome) → Turning meaning w0 w → v.planner.slots ≡ w.planner.slots → v.planner.reach ≡ w.planner.reach → v.planner.saved ≡ w.planner.saved
    → v.planner.depth ≡ w.planner.depth → v.planner.slate ≡ w.planner.slate
    → ((P : Problem) (D : List Decision) (G : List Plan) (X : Box) (m : Binding) → length P.sizes ≡ w0.planner.slots.count → Covers P.sheets P.scope (masks_of w.planner.reach)
    → Exploring P D G X m (pending w.stack) (lost_of w.stack) (height w.stack) (meaning w.planner.binder) → Turned P D G X m r (pending v.stack) (lost_of v.stack) (height v.stack) (meaning v.planner.binder))
    → IfEmpty r ((height w.stack ≡ 0) × (v.stack ≡ w.stack) × (v.planner.binder ≡ w.planner.binder)) (weight_of v.stack < weight_of w.stack)
    → v.state ≡ w.state → w.state ≡ Spent → (P : Problem) (L : Log) (n : ℕ) (p : List ℕ) → w0.planner.slots.count ≤ n → Walking meaning P L w0 → Walking meaning P (next_entry n p (Ok NoPlan) ∷ L) v
turn_spent meaning w0 w v r was es er ev ed el law less same spent P L n p room a = go r law less
  where
    none_left : height w.stack ≡ 0
    none_left = subst (λ s. At s (given L) (height w.stack)) spent (was.goes P a.decisions (given L) a.goes).at

    go : (x : Outcome) → ((P : Problem) (D : List Decision) (G : List Plan) (X : Box) (m : Binding) → length P.sizes ≡ w0.planner.slots.count → Covers P.sheets P.scope (masks_of w.planner.reach)
        → Exploring P D G X m (pending w.stack) (lost_of w.stack) (height w.stack) (meaning w.planner.binder) → Turned P D G X m x (pending v.stack) (lost_of v.stack) (height v.stack) (meaning v.planner.binder))
        → IfEmpty x ((height w.stack ≡ 0) × (v.stack ≡ w.stack) × (v.planner.binder ≡ w.planner.binder)) (weight_of v.stack < weight_of w.stack)
        → Walking meaning P (next_entry n p (Ok NoPlan) ∷ L) v
    go Empty f l = turn_empty meaning w0 w v Empty was es er ev ed el f l refl (same ∙ spent) P L n p room a
    go Dry f l = absurd (no_weight_lem w.stack v.stack none_left l)
    go Split f l = absurd (no_weight_lem w.stack v.stack none_left l)
    go (Found q) f l = absurd (no_weight_lem w.stack v.stack none_left l)

-- what is read off a memory whose front was written
pub front_of : (n : ℕ) (p before after : List ℕ) → n ≤ length p → after ≡ take n p ++ drop n before → take n after ≡ take n p
front_of n p before after h e =
    let long : length (take n p) ≡ n = rw length-take (omega arith) in
    ap (take n) e ∙ take_at (take n p) (drop n before) n long
