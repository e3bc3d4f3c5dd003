use Rattle.std.proofs.Common.{arith, length-take-le}
use borrow.Rule.Slice.PartMut.{take_put}
use Rattle.dialogue.proofs.Reading.{taken_behind}
use Rattle.dialogue.proofs.serve.read_behind.Goals as goal

pub returns-clause-front : goal.returns-clause-front
returns-clause-front g c = take_put _ _ c.args.buffer.now _ (omega (arith, c.requires))

pub returns-clause-taken : goal.returns-clause-taken
returns-clause-taken g c =
    taken_behind _ _ c.read_some.result _ c.read_some.new.into _ c.args.behind (length-take-le _ c.args.buffer.now (omega (arith, c.requires)))
    c.read_some.ensures.within c.read_some.ensures.taken
