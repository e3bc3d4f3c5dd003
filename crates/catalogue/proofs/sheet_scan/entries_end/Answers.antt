use Rattle.std.proofs.Common.{◌≡◌, ◌+◌, sym, ap, ◌∙◌, subst}
use Rattle.catalogue.specs.Records.{body_len, kind_at}
use Rattle.catalogue.proofs.Scan.{Onward, onward_start, onward_next, entries_done}
use Rattle.catalogue.proofs.sheet_scan.entries_end.Goals as goal

pub loop-kind-init : goal.loop-kind-init
loop-kind-init c = onward_start _ _ _ c.requires.1

pub loop-kind-preserved : goal.loop-kind-preserved
loop-kind-preserved c =
    let e : c.len-at.result ≡ 1 + body_len (kind_at c.args.bytes.now c.loop-kind.at) = c.len-at.ensures ∙ ap (λ k. 1 + body_len k) c.in-Some.ensures.1 in
    subst (λ n. Onward c.args.bytes.now c.args.from (c.loop-kind.at + n)) (sym e)
    (onward_next _ _ _ _ c.requires.1 c.in-Some.ensures.0 c.loop-kind.invariant)

pub returns : goal.returns
returns c = λ to r. entries_done c.in_default.ensures (c.loop-kind.invariant.goes to r)
