use Rattle.std.proofs.Common.{◌≡◌, ◌+◌, ◌<◌, length, drop, sym, ap, ◌∙◌, arith}
use Rattle.std.proofs.lemmas.Bool.Decides.{nat_tests}
use Rattle.std.proofs.lemmas.List.{drop-drop, drop_all, length-drop, take_rest}
use Rattle.commands.proofs.Splitting.{line_taken}
use Rattle.commands.proofs.lines.LinesIterator.next.Goals as goal
use Rattle.commands.proofs.lines.LinesIterator.next.Goals.{in-empty, in-len1-up}

pub returns-clause-steps : goal.returns-clause-steps
returns-clause-steps c =
    let bs = c.args.self.now.rest.now in
    let n = c.place_of.result in
    let behind = c.split_at.result.1.now in
    let some : 0 < length bs = grind (arith, nat_tests, c.if-is_empty.ensures) in
    let back : c.if-behind-lt1.self.now ≡ drop (n + 1) bs =
    elim c.if-behind-lt1.branch [
      | in-empty w ↦ ap (λ s. s.now) w.self-is ∙ (c.split_at.ensures.back ∙ (drop_all n bs (omega (arith, length-drop n bs, ap length c.split_at.ensures.back, w.in-empty.len_below)) ∙ sym (drop_all (n + 1) bs (omega (arith, length-drop n bs, ap length c.split_at.ensures.back, w.in-empty.len_below)))))
      | in-len1-up w ↦ ap (λ s. s.now) w.self-is ∙ (take_rest behind 1 ∙ (ap (drop 1) c.split_at.ensures.back ∙ drop-drop 1 n bs))
    ] in
    line_taken bs c.split_at.result.0.now c.if-behind-lt1.self.now n some c.place_of.ensures.is c.split_at.ensures.front back

pub returns-clause-goes : goal.returns-clause-goes
returns-clause-goes c =
    let fewer = ap length (returns-clause-steps c).0 in
    record { on = λ _. (tt, tt, omega (arith, fewer)); keeps = tt; rests = λ _. tt }
