use Rattle.std.proofs.Common.{ℕ, ◌<◌, Bool, ◌&&◌, eqb, ap, arith}
use Rattle.std.proofs.lemmas.Result.{MatchResult-weaker}
use Rattle.binder.specs.Meaning.{Binding}
use Rattle.binder.proofs.Paired.{first_there, second_there, second_past, paired_shown_first, paired_shown_second}
use Rattle.binder.proofs.join.JoinBinder.show.Goals as goal

pub returns-then-sheet-sheets : goal.returns-then-sheet-sheets
returns-then-sheet-sheets g c =
    let s = c.args.self.now in
    let a : Binding = g.A.Binder.meaning s.first in
    let b : Binding = g.B.Binder.meaning s.second in
    let n : ℕ = c.args.sheet in
    let t : Bool = s.both && eqb a.marks b.marks in
    let h : n < a.count = omega (arith, c.if-sheet-sheets.true, c.sheets.ensures) in
    MatchResult-weaker c.show.result c.show.ensures
    (λ _ k. (first_there t a b n (g.A.Binder.proper s.first) h, paired_shown_first s.both a (g.A.Binder.meaning c.show.new.self) b n _ _ h k.1))
    (λ _ k. absurd (omega (arith, k.1)))

pub returns : goal.returns
returns g c =
    let s = c.args.self.now in
    let a : Binding = g.A.Binder.meaning s.first in
    let b : Binding = g.B.Binder.meaning s.second in
    let n : ℕ = c.args.sheet in
    let place : ℕ = c.in_ok-place.place in
    let at = c.in_ok-place.ensures in
    MatchResult-weaker c.show-2.result c.show-2.ensures
    (λ _ k. (second_there s.both a b at.0 place n at.2 at.1 k.0, paired_shown_second s.both a b at.0 (g.B.Binder.meaning c.show-2.new.self) place n _ _ at.2 k.1))
    (λ _ k. (k.0, second_past s.both a b at.0 place n at.2 k.1, ap (λ z. record { first = s.first; second = z; both = s.both }) k.2, k.3))
