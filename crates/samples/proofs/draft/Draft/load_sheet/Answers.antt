use Rattle.std.proofs.Common.{rules, vec_len, arith}
use Rattle.samples.proofs.Adding.{added}
use Rattle.std.proofs.lemmas.Result.{IfOk-weaker}
use Rattle.samples.proofs.draft.Draft.load_sheet.Goals as goal

pub returns : goal.returns
returns c =
    let header = c.in_ok-header.ensures.long in
    IfOk-weaker c.try_fold.result _ _ (λ d h. omega (arith, header, h))
    (added _ _ _ (λ d. vec_len d.bytes) 160 (λ a i r f k. search rules) _ _ _ _ c.try_fold.ensures.ran 1280 (omega arith))
