use Rattle.std.proofs.Common.{refl, subst}
use Rattle.std.proofs.lemmas.Result.{err_from_is_err_and}
use Rattle.subject.specs.Logs.{strike}
use Rattle.boxes.specs.Boxes.{Closed}
use Rattle.planner.proofs.Steps.{refused_stays, shut_strike, struck_done}
use Rattle.planner.proofs.state.Planner.strike.Goals as goal

pub returns-in_err-option-clause-law : goal.returns-in_err-option-clause-law
returns-in_err-option-clause-law g c P L a =
    let h = err_from_is_err_and c.from_residual.result c.from_residual.ensures.1 in
    rw h.1 (refused_stays _ P L _ (strike c.args.slot c.args.option) _ a refl refl (shut_strike _ P L _ c.args.slot c.args.option _ a (rw h.2 c.in_err-option.ensures)))

pub returns-clause-law : goal.returns-clause-law
returns-clause-law g c P L a =
    let found = c.in_ok-option.ensures in
    let closed = subst (λ o. Closed c.args.self.now.slate.cells c.close.new.self.cells c.args.slot o) found.0 c.close.ensures in
    struck_done _ P L _ _ c.args.slot c.args.option c.count.result _ _ refl refl refl refl found.1 closed c.slot_alone.ensures c.settle.ensures c.count.ensures a
