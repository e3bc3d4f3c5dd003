use Rattle.std.proofs.Common.{rules, vec_len, arith}
use Rattle.samples.proofs.Adding.{added}
use Rattle.samples.proofs.draft.Draft.fit_sheets.Goals as goal

pub returns : goal.returns
returns c = added _ _ _ (λ d. vec_len d.bytes) 586 (λ a i r f k. search rules) _ _ _ _ c.try_fold.ensures.ran _ (omega arith)
