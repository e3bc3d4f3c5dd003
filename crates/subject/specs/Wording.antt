-- How what a call is answered is put into words. Assumes nothing.
use Rattle.std.specs.Prelude.{ℕ, List, ◌++◌, take, codes, decimal, Result}
use Rattle.std.specs.List.{flat_map}
use Rattle.subject.specs.declared.answer.Answer.{Answer}
use Rattle.subject.specs.declared.answer.Answer.TheVariants.{Count, Options, Plan, NoPlan, Done}
use Rattle.subject.specs.declared.denial.Denial.{Denial}
use Rattle.subject.specs.declared.plan.Plan.{Plan as GivenPlan}
use Rattle.subject.specs.Refusals.{denial_number}

-- what a line or a call comes to
abbrev pub Reply : Type 0
Reply = Result Answer Denial

-- the options of a plan that is answered
abbrev pub chosen : GivenPlan → List ℕ
chosen p = take p.slots p.options

-- a space and an option
abbrev pub spaced : ℕ → List ℕ
spaced option = codes " " ++ decimal option

abbrev pub answer_line : Answer → List ℕ
answer_line (Count n) = codes "ok " ++ decimal n
answer_line (Options n) = codes "ok " ++ decimal n
answer_line (Plan p) = codes "plan" ++ flat_map spaced (chosen p)
answer_line NoPlan = codes "none"
answer_line Done = codes "ok"

abbrev pub denial_line : Denial → List ℕ
denial_line d = codes "no " ++ decimal (denial_number d)
