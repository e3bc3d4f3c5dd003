use Rattle.std.proofs.Common.{◌≡◌, length, min, subst, ap, ◌∙◌, arith}
use Rattle.session.specs.Law.{Ran}
use Rattle.dialogue.specs.Talk.{calls_in}
use Rattle.dialogue.proofs.batch.answer.Goals as goal

pub returns : goal.returns
returns g c =
    let calls = c.as_slice.result.now in
    let replies = c.run-after.new.replies in
    let is : calls ≡ calls_in c.args.input.now = c.as_slice.ensures.value ∙ c.in_ok-calls.ensures in
    let room : length c.as_mut_slice-replies.result.now ≡ length calls = grind (arith, c.in_ok-room.ensures.len, c.as_slice.ensures, c.as_mut_slice-replies.ensures) in
    let long : length replies ≡ length calls = c.run-after.ensures.kept.long ∙ room in
    let all : min (length calls) (length c.as_mut_slice-replies.result.now) ≡ length replies = omega (arith, long, room) in
    record {
      replies = replies;
      worded = c.in_ok-words.ensures;
      each = long ∙ ap length is;
      ran = λ P L h. subst (λ l. Ran {bound = g.B.Binder} g.B.Binder.meaning P L l replies (length replies) 48 c.run-after.result) is
          (subst (λ k. Ran {bound = g.B.Binder} g.B.Binder.meaning P L calls replies k 48 c.run-after.result) all (c.run-after.ensures.law P L h));
    }
