use Rattle.std.proofs.Common.{◌-◌, ◌<◌, length, refl, arith}
use Rattle.subject.specs.Logs.{back, back_none}
use Rattle.planner.proofs.Tables.{cells_read}
use Rattle.planner.proofs.Steps.{refused_stays, depth_is, backed}
use Rattle.planner.proofs.state.Planner.back.Goals as goal

pub returns-then-self-eq0-clause-law : goal.returns-then-self-eq0-clause-law
returns-then-self-eq0-clause-law g c P L a = refused_stays _ P L _ back 25 a refl refl (back_none (omega (arith, depth_is _ P _ _ a.stands, c.if-self-eq0.true)))

pub returns-clause-law : goal.returns-clause-law
returns-clause-law g c P L a =
    let top = c.args.self.now.depth - 1 in
    let there : top < length c.args.self.now.saved = omega (arith, c.args.self.now.deep, c.args.self.now.long, c.if-self-eq0.false) in
    backed _ P L _ _ c.count.result top refl refl refl refl (omega (arith, c.if-self-eq0.false)) (cells_read c.args.self.now.saved top _ there)
    (c.restore.ensures (omega (arith, a.stands.marks, c.if-self-eq0.false))) c.count.ensures a
