use Rattle.std.proofs.Common.{rules, arith}
use Rattle.planner.specs.States.{no_slot, no_option, not_open}
use Rattle.planner.proofs.state.Planner.open_option.Goals as goal

pub returns-then-slot-self : goal.returns-then-slot-self
returns-then-slot-self g c = no_slot (omega (arith, c.if-slot-self.true))

pub returns-then-option-self : goal.returns-then-option-self
returns-then-option-self g c = no_option (omega (arith, c.if-slot-self.false)) (omega (arith, c.if-option-self.true))

pub returns-then-not-is_open : goal.returns-then-not-is_open
returns-then-not-is_open g c = not_open (omega (arith, c.if-slot-self.false)) (omega (arith, c.if-option-self.false)) (search rules)
