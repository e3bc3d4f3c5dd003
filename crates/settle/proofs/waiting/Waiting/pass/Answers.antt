use Rattle.std.proofs.Common.{◌≤◌, refl, subst, arith}
use Rattle.std.proofs.lemmas.List.{get_or_default}
use Rattle.settle.proofs.Sparing.{dropped}
use Rattle.settle.proofs.waiting.Waiting.pass.Goals as goal

pub returns-then-self-slot : goal.returns-then-self-slot
returns-then-self-slot c =
    let w = c.args.self.now in
    record {
      known = refl;
      fresh = refl;
      last = refl;
      late = dropped w.late _ c.args.slot c.args.sheet w.last c.slot_alone.ensures
          (subst (λ n. n ≤ c.args.sheet) (get_or_default w.last c.args.slot 0 1024 (omega (arith, w.long, c.if-slot-lt-SLOTS.true))) c.if-self-slot.true);
    }
