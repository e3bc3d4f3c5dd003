use Rattle.std.proofs.Common.{arith}
use Rattle.settle.proofs.Passing.{passed_spared, passed_shown}
use Rattle.settle.proofs.Ways.{by_ways}
use Rattle.settle.proofs.ask.Goals as goal

pub returns-then-not-has : goal.returns-then-not-has
returns-then-not-has g c = λ m w b was. passed_spared m _ _ w c.args.waiting.now c.has.new.self b _ c.args.sheet was c.has.ensures.passing (c.has.ensures.spared c.if-not-has.true)

pub returns : goal.returns
returns g c = λ m w b was.
    by_ways c.show.result _ _ c.show.ensures
    (λ _ done. passed_shown m _ _ _ w c.args.waiting.now c.has.new.self c.look.new.self b _ _ c.args.sheet c.args.slate.now.long c.requires.there was c.has.ensures.passing done.1 c.look.ensures)
    (λ _ not. absurd (omega (arith, not.1, c.requires.there)))
