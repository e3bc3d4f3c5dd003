use Rattle.std.proofs.Common.{◌≡◌, ◌+◌, true, take, Some, sym, ap, ◌∙◌, subst, arith, rules}
use Rattle.std.proofs.lemmas.Bool.Decides.{nat_tests}
use Rattle.catalogue.specs.Checks.{well_weighed, weight_of, scope_in, add_weight, is_load}
use Rattle.checker.specs.declared.progress.Newest.{Newest as NewestSheet}
use Rattle.checker.specs.Model.{weight_read}
use Rattle.checker.specs.Steps.{HoldsNewest}
use Rattle.checker.proofs.Stepping.{newest_here, search_at, load_is, weights_under, scope_shown, weight_stood, weight_newest, counts_with_weight, weight_read_passes}
use Rattle.checker.proofs.progress.Progress.add_weight.Goals as goal

pub returns : goal.returns
returns c = λ s h.
    let bs = c.args.bytes.now in
    let p = c.args.self.now in
    let at = c.args.at in
    let b = c.args.body.now in
    let n = c.in-Some.sheet in
    let o = s.newest in
    let newest : HoldsNewest bs at (Some n) o = subst (λ m. HoldsNewest bs at m o) c.in-Some.is h.newest in
    let there = newest_here bs at n o newest in
    let weights : is_load n.make ≡ true = load_is n.make (search rules) in
    let takes = weights_under bs at n o there true weights in
    let scope = scope_shown bs at n o there in
    let frame-scope : c.frame.result.scope.now ≡ n.scope.now = c.frame.ensures.scope ∙ ap (λ (x : NewestSheet). x.scope.now) c.in-Some.sheet-is in
    let k = c.in_ok-key.ensures in
    let read = weight_read_passes at (take p.slots p.options) n.scope.now b c.in_ok-key.key.now (k.is ∙ ap (λ os. weight_read at os c.frame.result.scope.now b) c.frame.ensures.options ∙ ap (λ ss. weight_read at (take p.slots p.options) ss b) frame-scope) in
    let weighed : well_weighed s.options (scope_in o) (weight_of b) ≡ true = ap (λ os. well_weighed os (scope_in o) (weight_of b)) (sym h.options) ∙ ap (λ ss. well_weighed (take p.slots p.options) ss (weight_of b)) scope ∙ read.0 in
    let search-of = search_at bs c.in_ok-key.key.now c.stood_before.result at _ n.first _ 5 (ap (λ (x : NewestSheet). x.first) c.in-Some.sheet-is) c.len.ensures c.stood_before.ensures in
    let stood = weight_stood bs at n o there weights c.stood_before.result b c.in_ok-key.key.now read.1 k.long search-of in
    let more = counts_with_weight s.earlier o b in
    record {
      is = grind (arith, nat_tests);
      shows = λ _. record { options = h.options; sheets = h.sheets ∙ sym more.sheets; loads = h.loads ∙ sym more.loads; rows = h.rows ∙ sym more.rows; newest = subst (λ m. HoldsNewest bs (at + 5) m (add_weight b o)) (sym c.in-Some.is) (weight_newest bs at n o b newest weights c.requires) };
    }
