use Rattle.std.proofs.Common.{ℕ, ◌<◌, List, [], length, sym, subst}
use Rattle.subject.specs.Problem.{Problem}
use Rattle.subject.specs.Decisions.{Decision, Open}
use Rattle.planner.specs.Opening.{slots_in, posed}
use Rattle.planner.proofs.Opened.{slots_some}
use Rattle.own_binder.specs.OneSheet.{meaning_of}
use Rattle.own_binder.proofs.Dry.{slots_have, look_dry, try_dry, beyond}
use Rattle.own_binder.proofs.asking.ask.Goals as goal

pub returns : goal.returns
returns c h =
    let k = c.args.catalogue.now in
    let sizes : List ℕ = slots_in k.bytes.now in
    let P : Problem = posed sizes (meaning_of c.new.result) in
    let some : 0 < length sizes = slots_some k.bytes.now k.counts k.accepted k.octets in
    let shut : (D : List Decision) (s o : ℕ) → Open P D s o → ⊥ =
    λ D s o. subst (λ m. Open (posed sizes m) D s o → ⊥) (sym c.new.ensures) (beyond sizes c.args.slot 0 h D s o) in
    let opened = c.open-planner.ensures in
    let looked = (c.look-looked.ensures P [] opened).lawful.2 in
    let tried = (c.try_option-tried.ensures.law P [] opened).lawful.2 in
    (look_dry P looked.0 [] (shut looked.0) 0 _ some looked.2, try_dry P tried.0 [] (shut tried.0) 0 0 _ (some, slots_have k.bytes.now k.counts k.accepted k.octets 0 some) tried.2)
