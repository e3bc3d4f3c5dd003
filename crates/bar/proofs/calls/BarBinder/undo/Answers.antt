use Rattle.std.proofs.Common.{rules}
use Rattle.std.proofs.lemmas.Result.{MatchResult-weaker}
use Rattle.bar.proofs.Showing.{same_marks}
use Rattle.bar.proofs.calls.BarBinder.undo.Goals as goal

pub returns : goal.returns
returns c =
    MatchResult-weaker c.drop_newest.result c.drop_newest.ensures (λ x h. search rules)
    (λ e h. (h.0, h.1, same_marks c.args.self.now c.drop_newest.new.self _ h.2))
