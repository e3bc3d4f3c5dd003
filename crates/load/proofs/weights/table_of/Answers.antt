use Rattle.std.proofs.Common.{◌≡◌, [], ◌∷◌, map, get_or, set, sym, ◌∙◌, ap, subst, w16, to_z, of_z, rules, arith}
use Rattle.std.proofs.Math.Logic.{∥∥₁_elim}
use Rattle.std.proofs.Math.Bridge.{le_prop}
use Rattle.catalogue.specs.Checks.{signed_two}
use Rattle.load.proofs.Weighing.{Reading, reading_none, reading_more, reading_all, position_known, option_known}
use Rattle.load.proofs.Tables.{no_weights, weight_written}
use Rattle.load.proofs.weights.table_of.Goals as goal

pub entries-init : goal.entries-init
entries-init c =
    let is = c.into_iter-entry-iterator.ensures.into_iter_gives in
    let chunks = c.rchunks_exact-entry-items in
    let five = ap (λ s. s.size) is ∙ chunks.ensures.size in (
      omega (arith, five),
      tt,
      five,
      subst (λ s. Reading c.args.entries.now _ s.rem.now s.rest.now) (sym is)
          (reading_none c.args.entries.now chunks.result.rem.now chunks.result.rest.now chunks.ensures.parts chunks.ensures.remainder_len),
    )

pub bounds-weights-position : goal.bounds-weights-position
bounds-weights-position c =
    let (_, _, five, was) = c.entries.invariant in
    let step = c.in-Some.ensures.steps.2 in
    ∥∥₁_elim c.requires le_prop (λ g. position_known _ _ _ _ _ _ was step.0 (step.1 ∙ five) g.weights g.gives)

pub bounds-weights-option : goal.bounds-weights-option
bounds-weights-option c =
    let (_, _, five, was) = c.entries.invariant in
    let step = c.in-Some.ensures.steps.2 in
    ∥∥₁_elim c.requires le_prop (λ g. option_known _ _ _ _ _ _ was step.0 (step.1 ∙ five) g.weights g.gives)

pub entries-preserved : goal.entries-preserved
entries-preserved c =
    let (can, _, five, was) = c.entries.invariant in
    let steps = c.in-Some.ensures.steps in
    let step = steps.2 in
    let entry = c.in-Some.entry.now in
    let amount : to_z w16 (of_z w16 c.from_le_bytes.result) ≡ signed_two (get_or entry 3 0 ∷ get_or entry 4 0 ∷ []) = search rules in
    let more = reading_more _ _ _ _ _ _ was step.0 (step.1 ∙ five) _ amount in
    let size = steps.0 ∙ five in
    let p = get_or entry 1 0 in
    let o = get_or entry 2 0 in
    let z = to_z w16 (of_z w16 c.from_le_bytes.result) in (
      omega (arith, size),
      tt,
      size,
      subst (λ b. Reading c.args.entries.now (map (λ w. w.amounts) (set c.entries.weights p (record { amounts = set (get_or c.entries.weights p no_weights).amounts o z }))) b c.next.new.self.rest.now) (sym steps.1)
          (subst (λ t. Reading c.args.entries.now t c.entries.entry-iterator.rem.now c.next.new.self.rest.now) (sym (weight_written c.entries.weights p o z)) more),
    )

pub returns : goal.returns
returns c =
    let (_, _, five, was) = c.entries.invariant in
    let ended = c.in-None.ensures.steps.2 in
    reading_all _ _ _ _ was (omega (arith, five, ended.0))
