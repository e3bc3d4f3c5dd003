use Rattle.own_binder.proofs.Showing.{shown}
use Rattle.own_binder.proofs.one_sheet.OneSheetBinder.show.Goals as goal

pub returns : goal.returns
returns c = let x = c.args.self.now in (c.if-sheet-ge1.false, shown x.slot x.marks.count c.args._slate.now.cells c.args.sheet)
