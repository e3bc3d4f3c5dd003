use Rattle.std.proofs.Common.{rules}
use Rattle.std.proofs.lemmas.Result.{MatchResult-weaker}
use Rattle.bar.proofs.Showing.{same_marks}
use Rattle.bar.proofs.calls.BarBinder.mark.Goals as goal

pub returns : goal.returns
returns c =
    MatchResult-weaker c.add.result c.add.ensures (λ x h. search rules)
    (λ e h. (h.0, h.1, same_marks c.args.self.now c.add.new.self _ h.2))
