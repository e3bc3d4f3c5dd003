use Rattle.std.proofs.Common.{◌≡◌, ℤ, ap, ◌∙◌, ◌+ℤ◌, ◌≤ℤ◌, subst, w32, to_z, of_z, rules}
use Rattle.load.specs.Weights.{weight_of, Allowed, Masked}
use Rattle.load.proofs.Masking.{mask_start, mask_take, mask_skip, mask_all}
use Rattle.load.proofs.masks.mask_of.Goals as goal

pub options-init : goal.options-init
options-init c =
    (tt, tt, mask_start _ _ _ c.args.cell _ (ap (λ s. s.left) c.into_iter-option-iterator.ensures.into_iter_gives ∙ c.of-option-items.ensures))

pub options-preserved-then-of-rest : goal.options-preserved-then-of-rest
options-preserved-then-of-rest c =
    let fits : (weight_of c.args.weights.now.amounts c.in-Some.option +ℤ to_z w32 (of_z w32 c.args.rest)) ≤ℤ to_z w32 (of_z w32 c.args.«cap») = search rules in
    (tt, tt, mask_take _ _ _ _ _ _ _ _ c.in-Some.ensures.steps c.options.invariant.2 fits)

pub options-preserved : goal.options-preserved
options-preserved c =
    let over : (weight_of c.args.weights.now.amounts c.in-Some.option +ℤ to_z w32 (of_z w32 c.args.rest)) ≤ℤ to_z w32 (of_z w32 c.args.«cap») → ⊥ = λ h. search rules in
    (tt, tt, mask_skip _ _ _ _ _ _ _ _ c.in-Some.ensures.steps c.options.invariant.2 over)

pub returns : goal.returns
returns c =
    let light : ℤ → ℤ → Type 0 = λ r k. Masked (Allowed c.args.weights.now.amounts r k c.args.cell) c.options.mask in
    let rest : to_z w32 (of_z w32 c.args.rest) ≡ c.args.rest = search rules in
    let limit : to_z w32 (of_z w32 c.args.«cap») ≡ c.args.«cap» = search rules in
    subst (light c.args.rest) limit
    (subst (λ (r : ℤ). light r (to_z w32 (of_z w32 c.args.«cap»))) rest
    (mask_all _ _ _ _ _ _ c.in-None.ensures.steps.0 c.options.invariant.2))
