use Rattle.std.proofs.Common.{[], get_or, sym, refl, subst, arith}
use Rattle.catalogue.specs.Views.{Shown}
use Rattle.sheets.specs.Closing.{Narrowed, shorter}
use Rattle.sheets.proofs.Scopes.{scope_at}
use Rattle.load.specs.Tables.{tables_in}
use Rattle.load.specs.Weights.{Supports}
use Rattle.load.proofs.Tables.{table_at}
use Rattle.load.proofs.Showing.{shown}
use Rattle.load.proofs.calls.LoadBinder.show.Goals as goal

pub returns : goal.returns
returns c =
    let x = c.args.self.now in
    let s = c.args.sheet in
    let (there, same) = c.in_ok-taken.ensures in
    let b = c.args.slate.now.cells in
    let masks = c.supported-masks.result in
    let good = scope_at x.sheets.make x.sheets.views x.sheets.count x.sheets.taken (omega (arith, x.sheets.long, x.few)) s there in
    let tables = tables_in x.weights in
    let taken = c.in_ok-taken.taken in
    let supports : Supports (get_or tables s []) taken.«cap» taken.scope.slots.now b masks =
    subst (λ t. Supports t taken.«cap» taken.scope.slots.now b masks) (sym (table_at x.weights s)) c.supported-masks.ensures in
    let narrowed = c.keep_only.ensures in
    record {
      shown = (
        there,
        shown x.sheets.views x.sheets.count tables x.marks.count s there good b c.keep_only.new.slate.cells masks
            (subst (λ (v : Shown). Supports (get_or tables s []) v.«cap» v.scope b masks) same supports)
            (subst (λ (v : Shown). Narrowed b c.keep_only.new.slate.cells v.scope masks (shorter v.scope masks)) same narrowed),
      );
      stays = refl;
    }
