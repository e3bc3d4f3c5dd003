use Rattle.std.proofs.Common.{◌≡◌, List, ℕ, Err, OnOk, IfSome, take, sym, ap, ◌∙◌, subst, arith}
use Rattle.std.proofs.KnownBytes.{Keeps-refl}
use Rattle.std.proofs.lemmas.Result.{err_from_is_err_and, on_ok_weaker, IfOk-weaker, IfErr-weaker}
use Rattle.dialogue.specs.Program.{Told}
use Rattle.dialogue.proofs.Telling.{if_ok_each, if_err_each, no_ok, ok_not_err, err_same}
use Rattle.dialogue.proofs.program.run.Goals as goal

pub returns-in_err-bytes : goal.returns-in_err-bytes
returns-in_err-bytes g c =
    let p = err_from_is_err_and c.from_residual.result c.from_residual.ensures.1 in
    record {
      opened = if_ok_each c.args.file _ (λ f. no_ok c.from_residual.result p.0 _ p.1);
      missing = if_err_each c.args.file _ (λ e k. no_ok c.from_residual.result p.0 _ p.1);
      passed = IfErr-weaker c.args.file _ _
          (λ e h ne. (p.1 ∙ ap Err (p.2 ∙ err_same c.first_bytes_of_opened.result _ e c.in_err-bytes.was (h ne)), Keeps-refl (g.R.Read.remaining c.args.input.now), Keeps-refl (g.W.Write.contents c.args.output.now)))
          c.first_bytes_of_opened.ensures.passed;
    }

pub returns : goal.returns
returns g c =
    let had = g.R.Read.remaining c.args.input.now in
    let left = g.R.Read.remaining c.tell.new.input in
    let was = g.W.Write.contents c.args.output.now in
    let is = g.W.Write.contents c.tell.new.output in
    record {
      opened = IfOk-weaker c.args.file _ _
          (λ f k. on_ok_weaker c.tell.result
          (λ told. (
            c.as_slice.result.now,
            (omega (arith, c.as_slice.ensures.len, c.in_ok-bytes.ensures.within), subst (λ (l : List ℕ). IfSome (g.F.Read.remaining f) (λ xs. l ≡ take 65536 xs)) (sym c.as_slice.ensures.value) k),
            told,
          ))
          c.tell.ensures)
          c.in_ok-bytes.ensures.bytes;
      missing = IfErr-weaker c.args.file _ _ (λ e h none. subst (λ (l : List ℕ). OnOk c.tell.result (Told l had left was is)) (c.as_slice.ensures.value ∙ h none) c.tell.ensures) c.in_ok-bytes.ensures.missing;
      passed = IfErr-weaker c.args.file _ _ (λ e h ne. absurd (ok_not_err _ e (h ne))) c.in_ok-bytes.ensures.passed;
    }
