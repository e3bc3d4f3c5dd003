use Rattle.std.proofs.Common.{rules}
use Rattle.std.proofs.lemmas.Bool.Decides.{Decides-eqb}
use Rattle.settle.proofs.Losing.{differ_decided}
use Rattle.settle.proofs.looking.differ.Goals as goal

pub returns : goal.returns
returns c = differ_decided c.args.cells.now c.args.others.now c.args.slot _ c.requires.slot (search rules) (search rules) (Decides-eqb _ _)
