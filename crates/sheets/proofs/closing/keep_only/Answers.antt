use Rattle.std.proofs.lemmas.List.{length_push}
use Rattle.std.proofs.lemmas.Slice.Zip.{zip_turn}
use Rattle.sheets.proofs.Narrowing.{narrowed_more}
use Rattle.sheets.proofs.closing.keep_only.Goals as goal

pub positions-preserved : goal.positions-preserved
positions-preserved c =
    let seen = c.positions.yielded in
    let t = zip_turn c.args.scope.now c.args.masks.now seen _ _ c.next.new.self _ (cc) (cc) c.positions.yielded_by _ c.in-Some.is c.next.ensures.steps in
    narrowed_more _ _ _ _ _ _ _ _ _ c.positions.invariant c.restrict.ensures (t.2 0) (t.3 0) (length_push seen _)
