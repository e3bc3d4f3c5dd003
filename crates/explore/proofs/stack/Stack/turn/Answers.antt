use Rattle.std.proofs.Common.{◌≡◌, suc, ◌-◌, refl, ap, subst, arith}
use Rattle.std.proofs.lemmas.Bool.{both_ways}
use Rattle.boxes.specs.Boxes.{opens}
use Rattle.settle.proofs.Keeping.{inside_cells}
use Rattle.settle.proofs.Ways.{by_ways}
use Rattle.subject.specs.Boxes.{Inside}
use Rattle.explore.specs.Doing.{Marked}
use Rattle.explore.proofs.Weights.{weight_drop}
use Rattle.explore.proofs.Turning.{exploring_over, turn_dry, turn_found, turn_split}
use Rattle.explore.proofs.stack.Stack.turn.Goals as goal

pub returns-then-not-has_open : goal.returns-then-not-has_open
returns-then-not-has_open g c =
    let t = c.args.self.now in
    let high : t.top ≡ suc (t.top - 1) = omega (arith, c.in-Some.ensures.0) in
    record {
      law = λ P D G X m e v a.
          turn_dry _ _ _ _ _ t.top (t.top - 1) _ _ _ _ c.args.slots _ _ high c.in-Some.ensures.1 c.settle.ensures c.settle.new.slate.long P D G X m e v a
          c.drop_next.ensures.same c.drop_next.ensures.lost c.drop_next.ensures.top c.drop_next.ensures.undone (λ w. both_ways _ c.if-not-has_open.true (c.has_open.ensures.1 w));
      stepped = record {
        some = c.in-Some.ensures.0;
        b = _;
        c = c.settle.new.slate.cells;
        k = _;
        next = c.in-Some.ensures.1;
        settled = c.settle.ensures;
        does = ((λ w. both_ways _ c.if-not-has_open.true (c.has_open.ensures.1 w)), c.drop_next.ensures.same, c.drop_next.ensures.lost, c.drop_next.ensures.undone);
      };
      less = weight_drop _ _ t.top _ c.drop_next.ensures.same c.drop_next.ensures.top;
      left = c.drop_next.ensures.top;
      long = tt;
    }

pub returns-in_default-loose : goal.returns-in_default-loose
returns-in_default-loose g c =
    let t = c.args.self.now in
    let high : t.top ≡ suc (t.top - 1) = omega (arith, c.in-Some.ensures.0) in
    let fewer = c.drop_next-in_default-loose.ensures in
    record {
      law = λ P D G X m e v a.
          turn_found _ _ _ _ _ t.top (t.top - 1) _ _ _ _ c.args.slots _ _ high c.in-Some.ensures.1 c.settle.ensures c.settle.new.slate.long P D G X m e v a
          fewer.same fewer.lost fewer.top fewer.undone (g.B.Binder.proper c.args.binder.now) (c.has_open.ensures.0 c.if-not-has_open.false)
          c.in_default-loose.ensures _ c.lay.ensures;
      stepped = record {
        some = c.in-Some.ensures.0;
        b = _;
        c = c.settle.new.slate.cells;
        k = _;
        next = c.in-Some.ensures.1;
        settled = c.settle.ensures;
        does = (c.has_open.ensures.0 c.if-not-has_open.false, c.in_default-loose.ensures, c.lay.ensures, fewer.same, fewer.lost, fewer.undone);
      };
      less = weight_drop _ _ t.top _ fewer.same fewer.top;
      left = fewer.top;
      long = c.lay.ensures.long;
    }

pub split-requires : goal.split-requires
split-requires g c =
    record {
      top = c.in-Some.ensures.0;
      inside = subst (Inside (opens c.settle.new.slate.cells)) c.in-Some.ensures.1 (inside_cells _ _ c.settle.ensures.less);
      loose = c.in-Some-loose.ensures;
    }

pub returns : goal.returns
returns g c =
    let t = c.args.self.now in
    let high : t.top ≡ suc (t.top - 1) = omega (arith, c.in-Some.ensures.0) in
    let marked : Marked (g.B.Binder.meaning c.settle.new.binder) (g.B.Binder.meaning c.mark.new.self) =
    by_ways c.mark.result _ _ c.mark.ensures
    (λ _ d. record { noted = λ _. d.1; full = λ h. absurd (omega (arith, d.0, h)) })
    (λ _ d. record { noted = λ h. absurd (omega (arith, d.1, h)); full = λ _. ap g.B.Binder.meaning d.2 }) in
    record {
      law = λ P D G X m e v a.
          by_ways c.mark.result _ _ c.mark.ensures
          (λ _ d. turn_split _ _ _ _ _ t.top (t.top - 1) _ _ _ _ c.args.slots _ _ high c.in-Some.ensures.1 c.settle.ensures c.settle.new.slate.long P D G X m e v a
          c.split.ensures.top c.split.ensures.split d.1)
          (λ _ d. absurd (omega (arith, d.1, c.settle.ensures.framed.marks, a.levels.marks, a.room, c.split.ensures.top, c.split.new.self.tall.0)));
      stepped = record {
        some = c.in-Some.ensures.0;
        b = _;
        c = c.settle.new.slate.cells;
        k = _;
        next = c.in-Some.ensures.1;
        settled = c.settle.ensures;
        does = (c.has_open.ensures.0 c.if-not-has_open.false, c.split.ensures.split, marked);
      };
      less = c.split.ensures.less;
      left = c.split.ensures.top;
      long = tt;
    }

pub returns-in_default : goal.returns-in_default
returns-in_default g c = record { law = λ P D G X m e v a. (exploring_over P D G X m _ _ _ _ c.in_default.ensures a, a); stepped = c.in_default.ensures; less = (c.in_default.ensures, refl, refl); left = refl; long = tt }
