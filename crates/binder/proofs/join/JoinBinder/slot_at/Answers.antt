use Rattle.std.proofs.Common.{ℕ, ◌<◌, Bool, ◌&&◌, eqb, ◌∙◌, arith}
use Rattle.binder.specs.Meaning.{Binding}
use Rattle.binder.specs.Joined.{paired}
use Rattle.binder.proofs.Paired.{same_slot, first_answers, second_answers}
use Rattle.binder.proofs.join.JoinBinder.slot_at.Goals as goal

pub returns-then-sheet-sheets : goal.returns-then-sheet-sheets
returns-then-sheet-sheets g c =
    let s = c.args.self.now in
    let a : Binding = g.A.Binder.meaning s.first in
    let b : Binding = g.B.Binder.meaning s.second in
    let n : ℕ = c.args.sheet in
    let t : Bool = s.both && eqb a.marks b.marks in
    let h : n < a.count = omega (arith, c.if-sheet-sheets.true, c.sheets.ensures) in
    c.slot_at.ensures ∙ same_slot a n (paired s.both a b) n c.args.position (first_answers t a b n (g.A.Binder.proper s.first) h)

pub returns : goal.returns
returns g c =
    let s = c.args.self.now in
    let a : Binding = g.A.Binder.meaning s.first in
    let b : Binding = g.B.Binder.meaning s.second in
    let n : ℕ = c.args.sheet in
    let place : ℕ = c.in_ok-place.place in
    let at = c.in_ok-place.ensures in
    c.slot_at-2.ensures ∙ same_slot b place (paired s.both a b) n c.args.position (second_answers s.both a b at.0 place n at.2 at.1)
