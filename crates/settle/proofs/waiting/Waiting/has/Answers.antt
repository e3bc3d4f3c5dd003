use Rattle.std.proofs.Common.{subst}
use Rattle.std.proofs.lemmas.Bool.{not-false}
use Rattle.boxes.specs.Slots.{Disjoint}
use Rattle.settle.proofs.Sparing.{spared_apart}
use Rattle.settle.proofs.waiting.Waiting.has.Goals as goal

pub returns-clause-spared : goal.returns-clause-spared
returns-clause-spared c = λ e. spared_apart _ _ _ (subst (Disjoint _) c.lost.ensures (c.spares.ensures.0 (not-false _ e)))
