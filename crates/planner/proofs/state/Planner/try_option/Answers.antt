use Rattle.std.proofs.Common.{refl, subst, arith}
use Rattle.std.proofs.lemmas.Result.{err_from_is_err_and}
use Rattle.subject.specs.Logs.{try, try_full}
use Rattle.boxes.specs.Boxes.{Fixed}
use Rattle.planner.proofs.Steps.{refused_stays, shut_try, open_is, depth_is, tried_done}
use Rattle.planner.proofs.state.Planner.try_option.Goals as goal

pub returns-in_err-option-clause-law : goal.returns-in_err-option-clause-law
returns-in_err-option-clause-law g c P L a =
    let h = err_from_is_err_and c.from_residual.result c.from_residual.ensures.1 in
    rw h.1 (refused_stays _ P L _ (try c.args.slot c.args.option) _ a refl refl (shut_try _ P L _ c.args.slot c.args.option _ a (rw h.2 c.in_err-option.ensures)))

pub returns-then-self-ge-TRIES-clause-law : goal.returns-then-self-ge-TRIES-clause-law
returns-then-self-ge-TRIES-clause-law g c P L a =
    refused_stays _ P L _ (try c.args.slot c.args.option) 24 a refl refl
    (try_full ((open_is _ P _ _ c.args.slot c.args.option a.stands).0 c.in_ok-option.ensures.1.is) (omega (arith, depth_is _ P _ _ a.stands, c.if-self-ge-TRIES.true)))

pub returns-clause-law : goal.returns-clause-law
returns-clause-law g c P L a =
    let found = c.in_ok-option.ensures in
    let fixed = subst (λ o. Fixed c.args.self.now.slate.cells c.fix.new.self.cells c.args.slot o) found.0 c.fix.ensures in
    tried_done _ P L _ _ c.args.slot c.args.option c.count-left.result _ _ _ refl refl refl refl (omega (arith, c.if-self-ge-TRIES.false)) found.1 fixed
    (c.save.ensures (omega (arith, a.stands.marks, c.if-self-ge-TRIES.false))) c.slot_alone.ensures c.settle.ensures c.count-left.ensures a
