use Rattle.std.proofs.Common.{ap₂, rules}
use Rattle.std.proofs.Math.Bridge.{le_prop}
use Rattle.std.proofs.lemmas.Result.{MatchResult-weaker}
use Rattle.load.proofs.calls.LoadBinder.undo.Goals as goal

pub returns : goal.returns
returns c =
    let x = c.args.self.now in
    MatchResult-weaker c.drop_newest.result c.drop_newest.ensures (λ _ h. search rules)
    (λ e h. (h.0, h.1, ap₂ (λ m f. record { sheets = x.sheets; weights = x.weights; marks = m; few = f }) h.2 (le_prop _ _)))
