use Rattle.std.proofs.Common.{ℕ, ◌≡◌, ℤ, true, map, rules, tests, ap, ◌∙◌, subst}
use Rattle.std.specs.Iterator.Runs.{AllItems}
use Rattle.load.specs.Weights.{weight_of, Small}
use Rattle.load.proofs.Lowest.{Listed, listed, run_of, each_of, lowest_of}
use Rattle.load.proofs.leasts.least_of.Goals as goal

pub returns : goal.returns
returns c =
    let f : ℕ → ℤ = weight_of c.args.weights.now.amounts in
    let (p, from, whole, answer) = c.min.ensures.runs in
    let (q, source, run) = c.map.ensures.runs p p.seen from in
    let (_, _, relates, maps, _) = run in
    let is : p.items ≡ map f q.items = maps f (λ x r q k. search (rules, tests)) in
    let ended : q.whole ≡ true = run.0 ∙ whole in
    let (t, gave, none) = run_of q ended in
    let those : Listed c.args.cell q.items = subst (λ n. Listed n q.items) (ap (λ s. s.left) source ∙ c.of.ensures) (listed (λ s. s.left) q.from t none.0 q.items gave none.1) in
    let small : AllItems p Small = each_of p q _ Small (λ x y h. search (rules, tests)) (relates (λ a r f' h. search (rules, tests))).1 in
    lowest_of p c.args.cell f q.items is those small c.min.result answer
