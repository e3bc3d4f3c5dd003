-- What next gives, taken from the front of a memory. Assumes nothing.
use Rattle.std.proofs.Common.{◌≡◌, ℕ, ◌≤◌, List, ◌∷◌, ◌++◌, length, take, drop, Some, Ok, sym, ap, ◌∙◌, subst, arith, length-take}
use Rattle.std.proofs.lemmas.List.{take_at}
use Rattle.subject.specs.declared.call.Call.TheVariants.{Next}
use Rattle.subject.specs.declared.answer.Answer.TheVariants.{Plan as GivePlan, NoPlan as GiveNone}
use Rattle.subject.specs.declared.plan.Plan.{Plan as GivenPlan}
use Rattle.subject.specs.Wording.{chosen}
use Rattle.subject.specs.Problem.{Problem}
use Rattle.subject.specs.Logs.{Log, next, plan}
use Rattle.binder.specs.declared.binders.Binder.{Ghosts}
use Rattle.binder.specs.Meaning.{Binding}
use Rattle.planner.specs.Answers.{next_entry, written}
use Rattle.planner.specs.Walks.{Walking}
use Rattle.planner.specs.declared.state.Walk.{Walk}
use Rattle.planner.specs.declared.step.Step.{Step}
use Rattle.planner.specs.declared.step.Step.TheVariants.{Plan, NoPlan}
use Rattle.session.specs.Running.{Replied}
use Rattle.session.specs.declared.state.Session.TheVariants.{Inside}

pub plan_front : (n : ℕ) (x zeros memory p : List ℕ) → p ≡ take n (x ++ drop n zeros) → x ≡ take n memory → n ≤ length memory → p ≡ take n memory
plan_front n x zeros memory p f e h =
    let long : length (take n memory) ≡ n = rw length-take (omega arith) in
    f ∙ (ap (λ y. take n (y ++ drop n zeros)) e ∙ take_at (take n memory) (drop n zeros) n long)

module _ {B : Type 0} {bound : Ghosts B} (meaning : B → Binding) (w v : Walk B bound) (m m' : List ℕ) (count : ℕ) (x : Step)
    (law : (P : Problem) (L : Log) → Walking meaning P L w → Walking meaning P (next_entry (length m) (take count m') (Ok x) ∷ L) v) (wrote : m' ≡ written count (Ok x) m m') where
  pub stepped_plan : (p : GivenPlan) (n : ℕ) → x ≡ Plan n → n ≡ count → n ≤ length m' → chosen p ≡ take n m' → Replied meaning (Some Next) (Ok (GivePlan p)) (Inside w) (Inside v) m m'
  stepped_plan p n e same within front =
      let is : chosen p ≡ take count m' = front ∙ ap (λ k. take k m') same in
      let long : length (chosen p) ≡ count = ap length front ∙ rw length-take (omega arith) in
      let says : (P : Problem) (L : Log) → Walking meaning P L w → Walking meaning P (next_entry (length m) (take count m') (Ok (Plan n)) ∷ L) v =
      λ P L a. subst (λ y. Walking meaning P (next_entry (length m) (take count m') (Ok y) ∷ L) v) e (law P L a) in
      record {
        memory = wrote ∙ ap (λ y. written count (Ok y) m m') e ∙ (λ i. sym is i ++ drop (sym long i) m);
        enters = λ P L a. subst (λ q. Walking meaning P (record { call = next (length m); answer = plan q } ∷ L) v) (sym is) (says P L a);
        fits = λ P L a. a.within;
      }

  pub stepped_none : x ≡ NoPlan → Replied meaning (Some Next) (Ok GiveNone) (Inside w) (Inside v) m m'
  stepped_none e = record {
    memory = wrote ∙ ap (λ y. written count (Ok y) m m') e;
    enters = λ P L a. subst (λ y. Walking meaning P (next_entry (length m) (take count m') (Ok y) ∷ L) v) e (law P L a);
    fits = λ P L a. a.within;
  }
