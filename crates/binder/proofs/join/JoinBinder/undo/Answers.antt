use Rattle.std.proofs.Common.{◌≡◌, true, ◌&&◌, eqb, sym, ap, ◌∙◌, arith}
use Rattle.std.proofs.lemmas.Result.{err_from_is_err_and}
use Rattle.binder.specs.Meaning.{Binding, Undone}
use Rattle.binder.proofs.Paired.{given_ok, level_marks, paired_marks, paired_undone, both_next, first_next}
use Rattle.binder.proofs.join.JoinBinder.undo.Goals as goal
use Rattle.binder.proofs.join.JoinBinder.undo.Goals.{then-level, else-level}

pub returns-in_err-undo : goal.returns-in_err-undo
returns-in_err-undo g c =
    let s = c.args.self.now in
    let a : Binding = g.A.Binder.meaning s.first in
    let b : Binding = g.B.Binder.meaning s.second in
    let few = paired_marks (s.both && eqb a.marks b.marks) a b in
    let k = c.in_err-undo.ensures in
    let p = err_from_is_err_and c.from_residual.result c.from_residual.ensures.1 in
    rw (p.1, p.2) (k.0, omega (arith, few, k.1), ap (λ z. record { first = z; second = s.second; both = s.both }) k.2)

pub returns : goal.returns
returns g c =
    let s = c.args.self.now in
    let a : Binding = g.A.Binder.meaning s.first in
    let b : Binding = g.B.Binder.meaning s.second in
    let l = c.level-level.ensures in
    let k = c.in_ok-undo.ensures in
    elim c.if-level.branch [
      | then-level w ↦
          let e : (s.both && eqb a.marks b.marks) ≡ true = sym l ∙ w.if-level.true in
          let same : a.marks ≡ b.marks = level_marks s.both a b e in
          let two : Undone b (g.B.Binder.meaning w.undo-then-level.new.self) = given_ok w.undo-then-level.result w.undo-then-level.ensures (λ _ h. omega (arith, h.1, k.marks)) (λ _ h. h) in
          rw w.self-is (both_next Undone s.both c.level-level.result a b _ _ l w.if-level.true (paired_undone s.both a b e _ _ k two))
      | else-level w ↦ rw w.self-is (first_next Undone s.both c.level-level.result a b _ _ l w.if-level.false k)
    ]
