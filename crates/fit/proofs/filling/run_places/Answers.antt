use Rattle.std.proofs.Common.{ℕ, ◌<◌, length, take, ◌∙◌, arith, length-take, get_or-take}
use Rattle.std.proofs.lemmas.List.{length_push}
use Rattle.std.proofs.lemmas.Slice.Zip.{zip_turn}
use Rattle.fit.proofs.Filled.{runs_next}
use Rattle.fit.proofs.filling.run_places.Goals as goal

pub runs-preserved : goal.runs-preserved
runs-preserved c =
    let starts = c.args.starts.now in
    let counts = c.args.counts.now in
    let n : ℕ = c.args.n in
    let seen = c.runs.yielded in
    let t = zip_turn (take n starts) (take n counts) seen _ _ c.next.new.self _ (cc) (cc) c.runs.yielded_by _ c.in-Some.is c.next.ensures.steps in
    let lt : length seen < n = omega (arith, t.0, length-take n starts) in
    runs_next _ _ _ _ _ _ _ _ _ _ lt c.requires (t.2 0 ∙ get_or-take n starts (length seen) 0 lt) (t.3 0 ∙ get_or-take n counts (length seen) 0 lt) (length_push seen _) (omega arith) (omega arith) (omega arith) c.lay_run.ensures c.runs.invariant
