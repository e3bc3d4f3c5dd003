use Rattle.std.proofs.Common.{◌≤◌, sym, refl, ◌∙◌}
use Rattle.binder.specs.Meaning.{Binding}
use Rattle.binder.specs.Joined.{paired, paired_proper}
use Rattle.binder.proofs.Paired.{past_all, past_first}
use Rattle.binder.proofs.join.Join.in_second.Goals as goal
use Rattle.binder.proofs.join.Join.in_second.Goals.{then-sheet-ge-SHEETS-via-then-sheet-ge-SHEETS, then-sheet-ge-SHEETS-via-else-sheet-ge-SHEETS+then-not-level}

pub returns-then-sheet-ge-SHEETS : goal.returns-then-sheet-ge-SHEETS
returns-then-sheet-ge-SHEETS g c =
    let s = c.args.self.now in
    let a : Binding = g.A.Binder.meaning s.first in
    let b : Binding = g.B.Binder.meaning s.second in
    let past : (paired s.both a b).count ≤ c.args.sheet = elim c.then-sheet-ge-SHEETS.branch [
      | then-sheet-ge-SHEETS-via-then-sheet-ge-SHEETS w ↦ past_all s.both a b _ (paired_proper s.both a b (g.A.Binder.proper s.first) (g.B.Binder.proper s.second)) w.if-sheet-ge-SHEETS.true
      | then-sheet-ge-SHEETS-via-else-sheet-ge-SHEETS+then-not-level w ↦ past_first s.both a b _ (sym w.level.ensures ∙ w.if-not-level.true) c.requires
    ] in
    (refl, past)
