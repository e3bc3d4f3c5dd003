use Rattle.std.proofs.Common.{rules, tests}
use Rattle.std.proofs.lemmas.Iterator.{IsFirst-from_position, YieldsList-from_slice}
use Rattle.boxes.proofs.Counting.{Several, loose_is}
use Rattle.boxes.proofs.OptionBox.loose.Goals as goal

pub returns : goal.returns
returns c =
    loose_is c.args.self.now.cells c.position.result c.args.self.now.long
    (IsFirst-from_position _ _ c.position.result Several (λ n. Several n → ⊥) c.position.ensures.ran (YieldsList-from_slice c.args.self.now.cells cc) (λ x q k. search (rules, tests)) (λ x q k. search (rules, tests)))
