use Rattle.std.proofs.Common.{◌≡◌, ◌-◌, ◌*◌, length, take, drop, ap, ◌∙◌, arith, rules}
use borrow.Author.Tests.{tests}
use Rattle.std.specs.List.{list_any}
use Rattle.std.proofs.lemmas.Iterator.Search.{any_from_yields_List}
use Rattle.checker.proofs.Tests.{keyed, records, chunks_yield, stood_from}
use Rattle.checker.proofs.sheet.stood_before.Goals as goal

pub returns : goal.returns
returns c =
    λ n e.
    let bs = c.args.bytes.now in
    let from = c.args.from in
    let size = c.args.size in
    let key = c.args.key.now in
    let p = c.in-Some.ensures.lookup in
    let count : c.args.to - from ≡ size * n = omega arith in
    let part : c.in-Some.earlier.now ≡ take (size * n) (drop from bs) = p.0.2 ∙ ap (λ k. take k (drop from bs)) count in
    let long : length c.in-Some.earlier.now ≡ size * n = omega (arith, p.0.3) in
    any_from_yields_List (keyed key) _ _ _ c.any.ensures.ran (chunks_yield size n c.chunks_exact.result c.in-Some.earlier.now (omega arith) c.chunks_exact.ensures.size c.chunks_exact.ensures.rest long) (λ x b q k. search (rules, tests)) ∙ ap (λ xs. list_any (keyed key) (records size n xs)) part ∙ stood_from bs key size n from c.requires.short
