use Rattle.std.proofs.Common.{ap, sym, subst, arith}
use Rattle.catalogue.specs.declared.make.Make.TheVariants.{Load}
use Rattle.catalogue.specs.Verdict.{content}
use Rattle.catalogue.specs.Views.{is_make}
use Rattle.sheets.specs.Rules.{Fresh}
use Rattle.sheets.specs.Tables.{sheets_in}
use Rattle.load.specs.Loads.{loading}
use Rattle.load.specs.Tables.{tables_in}
use Rattle.load.proofs.Entering.{few_loads}
use Rattle.load.proofs.Freshly.{fresh}
use Rattle.load.proofs.Load.new.Goals as goal

pub invariant_of-result : goal.invariant_of-result
invariant_of-result c =
    let x = c.sheets_of-sheets.result in
    record { few = few_loads x.make x.views x.count (ap (is_make Load) c.sheets_of-sheets.ensures.make) x.taken (omega (arith, x.few, x.long)) }

pub returns : goal.returns
returns c =
    let k = c.args.catalogue.now in
    let x = c.sheets_of-sheets.result in
    let tables = tables_in c.tables_of-weights.result in
    subst (λ n. Fresh (sheets_in (content k.bytes.now) Load) (loading x.views x.count tables n)) (sym c.none-marks.ensures)
    (fresh k.bytes.now k.counts k.accepted k.octets x.views x.count tables c.sheets_of-sheets.ensures.is (omega (arith, x.few, x.long)) c.tables_of-weights.ensures)
