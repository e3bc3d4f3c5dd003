use Rattle.std.proofs.Common.{rules, unwrap_or, arith}
use Rattle.catalogue.specs.Verdict.{content}
use Rattle.catalogue.specs.Views.{options_said}
use Rattle.planner.proofs.Opened.{said_at, slots_counted, sizes_taken}
use Rattle.planner.proofs.opening.slots_of.Goals as goal

pub invariant_of-result : goal.invariant_of-result
invariant_of-result c =
    let k = c.args.catalogue.now in
    let count = slots_counted k.bytes.now k.counts k.accepted k.octets in
    record { few = omega (arith, count.0, c.from.ensures); long = c.from_fn.ensures.items.long }

pub returns : goal.returns
returns c =
    let k = c.args.catalogue.now in
    sizes_taken k.bytes.now _ _ k.counts c.from.ensures k.accepted k.octets c.from_fn.ensures.items.long
    (said_at _ _ (λ s. unwrap_or (options_said (content k.bytes.now) s) 0) _ 48 c.from_fn.ensures.items (λ i y q h. search rules))
