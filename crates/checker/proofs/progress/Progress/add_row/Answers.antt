use Rattle.std.proofs.Common.{◌≡◌, ◌+◌, ◌≤◌, true, false, length, take, Some, sym, ap, ◌∙◌, subst, arith, rules}
use Rattle.std.proofs.lemmas.Bool.Decides.{nat_tests}
use Rattle.catalogue.specs.Checks.{well_filled, scope_in, add_row, is_load}
use Rattle.checker.specs.declared.progress.Newest.{Newest as NewestSheet}
use Rattle.checker.specs.Model.{row_read}
use Rattle.checker.specs.Steps.{HoldsNewest}
use Rattle.checker.proofs.Stepping.{newest_here, search_at, load_is_not, rows_under, scope_shown, row_stood, row_newest, row_counts, row_read_passes}
use Rattle.checker.proofs.progress.Progress.add_row.Goals as goal

pub returns : goal.returns
returns c = λ s h.
    let bs = c.args.bytes.now in
    let p = c.args.self.now in
    let at = c.args.at in
    let b = c.args.body.now in
    let n = c.in-Some.sheet in
    let o = s.newest in
    let newest : HoldsNewest bs at (Some n) o = subst (λ m. HoldsNewest bs at m o) c.in-Some.is h.newest in
    let there = newest_here bs at n o newest in
    let rows : is_load n.make ≡ false = load_is_not n.make (search rules) in
    let takes = rows_under bs at n o there false rows in
    let scope = scope_shown bs at n o there in
    let frame-scope : c.frame.result.scope.now ≡ n.scope.now = c.frame.ensures.scope ∙ ap (λ (x : NewestSheet). x.scope.now) c.in-Some.sheet-is in
    let k = c.in_ok-key.ensures in
    let read = row_read_passes at (take p.slots p.options) n.scope.now b c.in_ok-key.key.now (k.is ∙ ap (λ os. row_read at os c.frame.result.scope.now b) c.frame.ensures.options ∙ ap (λ ss. row_read at (take p.slots p.options) ss b) frame-scope) in
    let filled : well_filled s.options (scope_in o) b ≡ true = ap (λ os. well_filled os (scope_in o) b) (sym h.options) ∙ ap (λ ss. well_filled (take p.slots p.options) ss b) scope ∙ read.0 in
    let search-of = search_at bs c.in_ok-key.key.now c.stood_before.result at _ n.first _ 9 (ap (λ (x : NewestSheet). x.first) c.in-Some.sheet-is) c.len.ensures c.stood_before.ensures in
    let stood = row_stood bs at n o there rows c.stood_before.result b c.in_ok-key.key.now read.1 (k.long ∙ ap length frame-scope) search-of in
    let short : length n.scope.now ≤ 8 = omega (arith, k.long, k.short, c.requires.long, ap length frame-scope) in
    let more = row_counts bs at n s.earlier o b there in
    record {
      is = grind (arith, nat_tests);
      shows = λ _. record { options = h.options; sheets = h.sheets ∙ sym more.sheets; loads = h.loads ∙ sym more.loads; rows = ap (λ r. r + 1) h.rows ∙ sym more.rows; newest = subst (λ m. HoldsNewest bs (at + 9) m (add_row b o)) (sym c.in-Some.is) (row_newest bs at n o b newest rows c.requires short) };
    }
