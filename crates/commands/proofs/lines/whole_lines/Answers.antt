use Rattle.std.proofs.Common.{rules}
use Rattle.std.proofs.iter.runs.Made.{chains}
use Rattle.commands.proofs.Splitting.{whole_behind}
use Rattle.commands.proofs.lines.whole_lines.Goals as goal

pub returns : goal.returns
returns c = whole_behind c.args.input.now c.rposition.result c.map_or.result (search (rules, chains)) (search rules)
