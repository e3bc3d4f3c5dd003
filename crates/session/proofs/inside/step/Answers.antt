use Rattle.std.proofs.Common.{◌≤◌, length, Ok, subst, rules}
use Rattle.planner.specs.Answers.{Sized}
use Rattle.std.proofs.lemmas.Result.{err_from_is_err_and}
use Rattle.session.proofs.Plans.{stepped_plan, stepped_none}
use Rattle.session.proofs.inside.step.Goals as goal

pub returns-in_err-count : goal.returns-in_err-count
returns-in_err-count g c =
    let p = err_from_is_err_and c.from_residual.result c.from_residual.ensures.1 in
    let done = c.in_err-count.ensures in
    rw (p.1, p.2) (record { memory = done.wrote; enters = λ P L h. done.law P L h; fits = λ P L h. h.within })

pub returns-in-Plan : goal.returns-in-Plan
returns-in-Plan g c =
    let done = c.in_ok-count.ensures in
    let count = c.args.walk.now.planner.slots.count in
    let within : c.in-Plan.count ≤ length c.next.new.memory = search rules in
    let long = subst (λ x. Sized count (Ok x)) c.in-Plan.is done.sized in
    stepped_plan _ _ _ _ _ count c.in_ok-count.field-0 done.law done.wrote c.plan_in.result c.in-Plan.count c.in-Plan.is long within c.plan_in.ensures

pub returns-in-NoPlan : goal.returns-in-NoPlan
returns-in-NoPlan g c =
    let done = c.in_ok-count.ensures in
    stepped_none _ _ _ _ _ c.args.walk.now.planner.slots.count c.in_ok-count.field-0 done.law done.wrote c.in-NoPlan.is
