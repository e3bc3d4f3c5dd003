use Rattle.std.proofs.Common.{◌≡◌, ◌++◌, length, length-take, take, drop, sym, refl, ap, ◌∙◌, subst, arith}
use Rattle.explore.specs.Outcomes.{Long}
use Rattle.planner.proofs.Going.{turning_none, short_stays, turn_dry, turn_split, turn_empty, turn_found, turn_spent, front_of}
use Rattle.planner.proofs.state.Walk.next.Goals as goal

pub turns-init : goal.turns-init
turns-init g c = (turning_none _ _, refl)

pub returns-then-memory-count-clause-law : goal.returns-then-memory-count-clause-law
returns-then-memory-count-clause-law g c P L a = short_stays _ P L _ _ c.args.memory.now (omega arith) a

pub returns-in-Spent-default-clause-law : goal.returns-in-Spent-default-clause-law
returns-in-Spent-default-clause-law g c P L a =
    turn_spent _ _ _ _ _ c.turns.invariant.0 refl refl refl refl refl c.turn-outcome.ensures.law c.turn-outcome.ensures.less refl c.in-Spent-default.is-0 P L _ c.args.memory.now (omega (arith, c.if-memory-count.false)) a

pub returns-in_default-Empty-clause-law : goal.returns-in_default-Empty-clause-law
returns-in_default-Empty-clause-law g c P L a =
    turn_empty _ _ _ _ _ c.turns.invariant.0 refl refl refl refl refl c.turn-outcome.ensures.law c.turn-outcome.ensures.less c.in_default-Empty.is-1 refl P L _ c.args.memory.now (omega (arith, c.if-memory-count.false)) a

pub returns-in_default-Found : goal.returns-in_default-Found
returns-in_default-Found g c =
    let count = c.args.self.now.planner.slots.count in
    let few = c.args.self.now.planner.slots.few in
    let plan = c.in_default-Found.plan in
    let long : length plan ≡ 48 = subst Long c.in_default-Found.is-1 c.turn-outcome.ensures.long in
    let taken : length (take count plan) ≡ count = rw length-take (omega (arith, few, long)) in
    let wrote : c.write_plan.new.memory ≡ take count plan ++ drop count c.args.memory.now = c.write_plan.ensures ∙ (λ i. take count plan ++ drop (taken i) (c.turns.invariant.1 i)) in
    let front : take count c.write_plan.new.memory ≡ take count plan = front_of count plan c.args.memory.now c.write_plan.new.memory (omega (arith, few, long)) wrote in
    record {
      law = λ P L a.
          turn_found _ _ _ _ _ c.turns.invariant.0 refl refl refl refl refl c.turn-outcome.ensures.law c.turn-outcome.ensures.less count _ plan c.in_default-Found.is-1 refl P L _ (omega (arith, c.if-memory-count.false)) front a;
      wrote = wrote ∙ ap (λ x. x ++ drop count c.args.memory.now) (sym front);
      sized = refl;
      refused = omega (arith, c.if-memory-count.false);
      slots = c.turns.invariant.0.slots;
    }

pub turns-preserved-in_default-Dry : goal.turns-preserved-in_default-Dry
turns-preserved-in_default-Dry g c =
    (turn_dry _ _ _ _ _ c.turns.invariant.0 refl refl refl refl refl c.turn-outcome.ensures.law c.turn-outcome.ensures.less c.in_default-Dry.is-1 refl c.in_default-Dry.not-Spent-0, c.turns.invariant.1)

pub turns-preserved : goal.turns-preserved
turns-preserved g c =
    (turn_split _ _ _ _ _ c.turns.invariant.0 refl refl refl refl refl c.turn-outcome.ensures.law c.turn-outcome.ensures.less c.in_default-Split.is-1 refl c.in_default-Split.not-Spent-0, c.turns.invariant.1)
