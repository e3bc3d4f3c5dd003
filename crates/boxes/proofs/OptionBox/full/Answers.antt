use Rattle.std.proofs.Common.{get_or, arith, rules, tests}
use Rattle.boxes.specs.Boxes.{Below}
use Rattle.boxes.proofs.Counting.{filled}
use Rattle.boxes.proofs.Made.{made}
use Rattle.boxes.proofs.OptionBox.full.Goals as goal

pub returns : goal.returns
returns c =
    let sizes = c.args.sizes.now in
    filled sizes _ c.from_fn.ensures.items.long
    (λ s h. made _ _ (λ t y. Below y (get_or sizes t 0)) (λ k y q call. search (rules, tests)) _ 0 48 c.from_fn.ensures.items.each s 0 (omega arith) h)
