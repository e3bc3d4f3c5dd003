use Rattle.std.proofs.Common.{sym, refl, ap, ◌∙◌, arith}
use Rattle.catalogue.specs.Verdict.{content}
use Rattle.catalogue.specs.Views.{seen}
use Rattle.sheets.proofs.Chosen.{count_few, count_said_lem, taken_of, filled_none, filled_more, filled_all, never_none}
use Rattle.sheets.proofs.taking.sheets_of.Goals as goal
use Rattle.sheets.proofs.taking.sheets_of.Goals.{in-Some, in_default}

pub sheets-init : goal.sheets-init
sheets-init c =
    filled_none (content c.args.catalogue.now.bytes.now) c.args.make _ c.sheet_count-count.result c.no_view-views.result refl refl c.no_view-views.ensures

pub sheets-preserved : goal.sheets-preserved
sheets-preserved c =
    let k = c.args.catalogue.now in
    let count = c.sheet_count-count.ensures in
    let less = c.sheets-test.true in
    elim c.match-sheet.branch [
      | in-Some w ↦ filled_more k.bytes.now k.counts k.accepted k.octets c.args.make c.sheets.views c.match-sheet.views c.sheets.i c.sheet_count-count.result w.in-Some.view c.sheets.invariant less count (ap seen (sym w.in-Some.is) ∙ c.sheet.ensures) w.views-is
      | in_default w ↦ absurd (never_none (content k.bytes.now) c.args.make c.sheets.i c.sheet_count-count.result less count (ap seen (sym w.in_default.is) ∙ c.sheet.ensures))
    ]

pub invariant_of-result : goal.invariant_of-result
invariant_of-result c =
    let k = c.args.catalogue.now in
    let few = count_few k.bytes.now k.counts k.accepted k.octets c.args.make in
    let count = c.sheet_count-count.ensures in
    let shown = filled_all (content k.bytes.now) c.args.make c.sheets.views c.sheets.views c.sheets.i c.sheet_count-count.result c.sheets.invariant c.sheets-test.false count refl in
    record { few = omega arith; long = c.sheets.invariant.long; taken = ∣ taken_of k.bytes.now k.counts k.accepted k.octets c.args.make c.sheets.views c.sheet_count-count.result shown ∣₁ }

pub returns : goal.returns
returns c =
    let k = c.args.catalogue.now in
    let count = c.sheet_count-count.ensures in
    record {
      is = filled_all (content k.bytes.now) c.args.make c.sheets.views c.sheets.views c.sheets.i c.sheet_count-count.result c.sheets.invariant c.sheets-test.false count refl;
      make = refl;
      rest = λ s h. c.sheets.invariant.rest s (omega (arith, c.sheets.invariant.within));
      count = count ∙ count_said_lem (content k.bytes.now) c.args.make;
    }
