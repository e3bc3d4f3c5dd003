use Rattle.std.proofs.Common.{◌≡◌, ◌+◌, true, false, ◌&&◌, leb, length, sym, ap, ◌∙◌, arith}
use Rattle.std.proofs.lemmas.Bool.Decides.{nat_tests}
use Rattle.std.proofs.lemmas.List.{length-take-le}
use Rattle.catalogue.specs.Checks.{fresh, sheets_of, is_load, well_scoped, scope_of}
use Rattle.catalogue.specs.Content.{loads_in}
use Rattle.checker.proofs.Stepping.{scope_read_passes, loads_counted, head_newest, head_ends, head_more}
use Rattle.checker.proofs.progress.Progress.add_header.Goals as goal

pub returns : goal.returns
returns c = λ bs s h.
    let p = c.args.self.now in
    let at = c.args.at in
    let b = c.args.body.now in
    let m = c.args.make in
    let few = length-take-le p.slots p.options (omega arith) in
    let slots : p.slots ≡ length s.options = sym few ∙ ap length h.options in
    let read = scope_read_passes at p.slots b c.in_ok-scope.scope.now c.in_ok-scope.ensures in
    let loads = loads_counted m p.loads c.in-Some.loads c.in-Some.ensures in
    let ends = head_ends at m b c.requires.size in
    let more = head_more (sheets_of s) (fresh m b) in
    let scoped : well_scoped (length s.options) (scope_of b) ≡ true = ap (λ n. well_scoped n (scope_of b)) (sym slots) ∙ read.1 in
    let full : (is_load m && leb 8 (loads_in (sheets_of s))) ≡ false = ap (λ n. is_load m && leb 8 n) (sym h.loads) ∙ loads.1 in
    record {
      is = grind (arith, nat_tests);
      shows = λ _. record { options = h.options; sheets = omega (arith, h.sheets, more.sheets); loads = omega (arith, loads.0, h.loads, more.loads); rows = h.rows ∙ omega (arith, more.rows); newest = head_newest bs _ (record { make = m; scope = c.in_ok-scope.scope; first = at + 1 + length b }) b read.2 ends };
    }
