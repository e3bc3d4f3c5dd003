-- The reckoner is right: what it computes of a problem holds of it. Assumes nothing.
use Rattle.std.proofs.Common.{◌≡◌, ℕ, suc, T, List, [], subst}
use Rattle.subject.specs.Problem.{Problem}
use Rattle.subject.specs.Boxes.{opened}
use Rattle.subject.specs.Decisions.{Decision, OpenCount}
use Rattle.subject.specs.Plans.{Plan}
use Rattle.subject.specs.Logs.{Call, Log, calls, Refuses, Standing}
use Rattle.subject.specs.Law.{Lawful}
use Rattle.examples.specs.Claims.{Looks, Dry, Plans}
use Rattle.examples.proofs.Reckoner.{opens, settled, finished, looks}
use Rattle.examples.proofs.Finding.{plans}
use Rattle.examples.proofs.Answering.{refusal, course}
use Rattle.examples.proofs.Settled.{settled_largest}
use Rattle.examples.proofs.Shown.{looks_are}
use Rattle.examples.proofs.Meeting.{plans_are}
use Rattle.examples.proofs.Refusing.{refuses_so}
use Rattle.examples.proofs.Runs.{course_kept}

-- what a worked example may say of a problem
pub data Claim : Type 0 where
  counting : List Decision → ℕ → Claim
  looking : List Decision → List ℕ → Claim
  planning : List Decision → List Plan → Claim
  drying : List Decision → Claim
  refusing : List Decision → Call → ℕ → Claim
  standing : List Call → List Decision → Claim
  logging : Log → Claim

abbrev pub Says : Problem → Claim → Type 0
Says P (counting D n) = OpenCount P D n
Says P (looking D shown) = Looks P D shown
Says P (planning D ps) = Plans P D ps
Says P (drying D) = Dry P D
Says P (refusing D c n) = Refuses P D c (suc n)
Says P (standing C D) = Standing P C D
Says P (logging L) = Lawful P L

-- what the reckoner has to compute for it
abbrev pub Reckons : Problem → Claim → Type 0
Reckons P (counting D n) = T (finished P D) × (n ≡ opened (opens (settled P D)))
Reckons P (looking D shown) = T (finished P D) × T (looks P (settled P D) shown)
Reckons P (planning D ps) = T (plans P D ps)
Reckons P (drying D) = T (finished P D) × (settled P D ≡ [])
Reckons P (refusing D c n) = T (finished P D) × (refusal P D c ≡ suc n)
Reckons P (standing C D) = T (course P C).sure × ((course P C).decisions ≡ D)
Reckons P (logging L) = T (course P (calls L)).sure × ((course P (calls L)).log ≡ L)

pub sound : (P : Problem) (c : Claim) → Reckons P c → Says P c
sound P (counting D n) r = (opens (settled P D), settled_largest P D r.0, r.1)
sound P (looking D shown) r = looks_are P D (settled P D) shown (settled_largest P D r.0) r.1
sound P (planning D ps) r = plans_are P D ps r
sound P (drying D) r = λ s o w. subst (λ B. T (opens B s o)) r.1 ((settled_largest P D r.0 s o).1 w)
sound P (refusing D c n) r = refuses_so P D c n r.0 r.1
sound P (standing C D) r = subst (Standing P C) r.1 (course_kept P C r.0).standing
sound P (logging L) r = subst (Lawful P) r.1 (course_kept P (calls L) r.0).lawful
