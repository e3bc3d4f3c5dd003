use Rattle.fit.specs.Meaning.{laid_out}
use Rattle.fit.proofs.Marking.{laid_marked, noted}
use Rattle.fit.proofs.calls.FitBinder.mark.Goals as goal

pub invariant_of-self : goal.invariant_of-self
invariant_of-self c =
    let s = c.args.self.now in
    let k = c.in_ok-add.ensures in
    record { laid = ∣ laid_marked _ _ _ _ _ _ _ (laid_out _ _ _ _ _ _ _ s.laid) _ k.1 k.0 ∣₁ }

pub returns : goal.returns
returns c =
    let s = c.args.self.now in let k = c.in_ok-add.ensures in (k.0, noted _ _ _ _ _ _ _ (laid_out _ _ _ _ _ _ _ s.laid) _ k.1 k.0)
