use Rattle.fit.specs.Meaning.{laid_out}
use Rattle.fit.proofs.Marking.{laid_undone, undone}
use Rattle.fit.proofs.calls.FitBinder.undo.Goals as goal

pub invariant_of-self : goal.invariant_of-self
invariant_of-self c =
    let s = c.args.self.now in record { laid = ∣ laid_undone _ _ _ _ _ _ _ (laid_out _ _ _ _ _ _ _ s.laid) _ c.in_ok-drop_newest.ensures ∣₁ }

pub returns : goal.returns
returns c = let s = c.args.self.now in undone _ _ _ _ _ _ _ (laid_out _ _ _ _ _ _ _ s.laid) _ c.in_ok-drop_newest.ensures
