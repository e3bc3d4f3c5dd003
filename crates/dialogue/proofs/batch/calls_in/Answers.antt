use Rattle.std.proofs.Common.{Bor, List, ℕ, length, ap, subst, rules}
use Rattle.std.proofs.lemmas.Iterator.{YieldsList, YieldsList-from_map, items_from_collect}
use Rattle.std.proofs.lemmas.Iterator.Consumers.{YieldsList-from_shown, YieldsList-at}
use Rattle.commands.specs.Lines.{lines_of, to_come, Took}
use Rattle.commands.specs.Parsing.{call_of}
use Rattle.dialogue.proofs.batch.calls_in.Goals as goal

pub returns : goal.returns
returns g c =
    let each = YieldsList-from_shown (λ s line t. Took (to_come s) line (to_come t)) (λ (y : Bor (List ℕ)). y.now) (λ s. lines_of (to_come s)) (λ s t h. ap length h.0) (λ s x t h. h.0) c.new.result in
    let all = subst (λ bs. YieldsList (λ s line t. Took (to_come s) line (to_come t)) (λ (y : Bor (List ℕ)). y.now) c.new.result (lines_of bs)) c.new.ensures each in
    items_from_collect _ c.collect.ensures.ran (YieldsList-from_map _ call_of (YieldsList-at c.map.ensures.source all) c.map.ensures.closure (λ x r q k. search rules))
