use Rattle.std.proofs.Common.{◌≡◌, true, ◌&&◌, eqb, sym, ◌∙◌, arith}
use Rattle.binder.specs.Meaning.{Binding}
use Rattle.binder.proofs.Paired.{level_count}
use Rattle.binder.proofs.join.JoinBinder.sheets.Goals as goal

pub returns : goal.returns
returns g c =
    let s = c.args.self.now in
    let a : Binding = g.A.Binder.meaning s.first in
    let b : Binding = g.B.Binder.meaning s.second in
    let e : (s.both && eqb a.marks b.marks) ≡ true = sym c.level.ensures ∙ c.if-not-level.false in
    omega (arith, level_count s.both a b e, c.sheets-n.ensures, c.sheets.ensures, c.min.ensures)
