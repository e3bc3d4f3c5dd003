-- The reckoner's answers to calls. Assumes nothing.
use Rattle.std.proofs.Common.{ℕ, zero, suc, ◌+◌, ◌^◌, Bool, true, cond, ◌&&◌, eqb, ltb, leb, List, [], ◌∷◌, length, get_or}
use mathlib.Core.Bool.{beq}
use Rattle.subject.specs.Problem.{Problem}
use Rattle.subject.specs.Boxes.{opened}
use Rattle.subject.specs.Decisions.{Decision, tried, struck, tries, undone}
use Rattle.subject.specs.Plans.{Plan}
use Rattle.subject.specs.Logs.{Call, try, strike, back, begin, end, look, next, Answer, count, bits, refused, done, Log, decided, walking, given}
use Rattle.subject.specs.Law.{inside}
use Rattle.examples.proofs.Reckoner.{opens, held, round, closed, alive, placed, stable, settled, finished, shows, looks}
use Rattle.examples.proofs.Finding.{meets, no_plan, plans, left, next_of, is_next}

-- the number of a call's refusal, and 0 where it is not refused
unfoldable pub refusal : Problem → List Decision → Call → ℕ
refusal P D (try s o) =
    cond (leb (length P.sizes) s) 21 (cond (leb (get_or P.sizes s 0) o) 22 (cond (opens (settled P D) s o) (cond (leb 16 (tries D)) 24 0) 23))
refusal P D (strike s o) =
    cond (leb (length P.sizes) s) 21 (cond (leb (get_or P.sizes s 0) o) 22 (cond (opens (settled P D) s o) 0 23))
refusal P D back = cond (eqb (tries D) 0) 25 0
refusal P D begin = 0
refusal P D end = 0
refusal P D (look s) = cond (leb (length P.sizes) s) 21 0
refusal P D (next n) = cond (ltb n (length P.sizes)) 26 0

-- the answer of a call that is refused by number n, or is not refused
abbrev pub reply : ℕ → Answer → Answer
reply zero a = a
reply (suc n) a = refused (suc n)

abbrev pub counted : Problem → List Decision → Answer
counted P D = count (opened (opens (settled P D)))

-- the options of a list as bits
abbrev pub mask : List ℕ → ℕ
mask [] = 0
mask (o ∷ os) = 2 ^ o + mask os

-- the answer to a call, while decisions stand and plans were given
unfoldable pub answer : Problem → List Decision → List Plan → Call → Answer
answer P D G (try s o) = reply (refusal P D (try s o)) (counted P (tried s o ∷ D))
answer P D G (strike s o) = reply (refusal P D (strike s o)) (counted P (struck s o ∷ D))
answer P D G back = reply (refusal P D back) (counted P (undone D))
answer P D G begin = done
answer P D G end = done
answer P D G (look s) = reply (refusal P D (look s)) (bits (mask (get_or (settled P D) s [])))
answer P D G (next n) = reply (refusal P D (next n)) (next_of (left P D G))

-- the mask or the plan is the right one
unfoldable pub checked : Problem → List Decision → List Plan → Call → Bool
checked P D G (try s o) = true
checked P D G (strike s o) = true
checked P D G back = true
checked P D G begin = true
checked P D G end = true
checked P D G (look s) = shows (get_or (settled P D) s []) (mask (get_or (settled P D) s []))
checked P D G (next n) = is_next P D G (left P D G)

-- what calls come to: the decisions that stand, the log, and whether the reckoner is sure of both
pub record Course : Type 0 where
  pub decisions : List Decision
  pub log : Log
  pub sure : Bool

-- what a call makes of the decisions
abbrev pub onward : ℕ → Call → List Decision → List Decision
onward zero c D = decided c D
onward (suc n) c D = D

unfoldable pub step : Problem → Call → Course → Course
step P c r = record {
  decisions = onward (refusal P r.decisions c) c r.decisions;
  log = record { call = c; answer = answer P r.decisions (given r.log) c } ∷ r.log;
  sure =
      r.sure
      && (beq (walking r.log) (inside c)
      && (finished P r.decisions && (finished P (decided c r.decisions) && checked P r.decisions (given r.log) c)));
}

-- of a list of calls, the newest first
abbrev pub course : Problem → List Call → Course
course P [] = record { decisions = []; log = []; sure = true }
course P (c ∷ C) = step P c (course P C)

-- to let all of the reckoner compute
unfoldable pub reckoning : Unit {0}
unfolding held round closed alive placed stable settled finished shows looks meets no_plan plans refusal left answer checked step opened
reckoning = tt
