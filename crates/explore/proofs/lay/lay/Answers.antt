use Rattle.std.proofs.Common.{arith, rules, tests}
use Rattle.boxes.proofs.Made.{made}
use Rattle.explore.specs.Laid.{Entry}
use Rattle.explore.proofs.lay.lay.Goals as goal

pub returns : goal.returns
returns c = record {
  long = c.from_fn.ensures.items.long;
  at = λ s h. made _ _ (Entry c.args.slate.now.cells) (λ k y q call. search (rules, tests)) _ 0 48 c.from_fn.ensures.items.each s 0 (omega arith) h;
}
