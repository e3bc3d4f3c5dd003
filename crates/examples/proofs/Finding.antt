-- The reckoner's plans: it runs through all plans. Assumes nothing.
use Rattle.std.proofs.Common.{ℕ, Bool, true, false, cond, not, ◌&&◌, ◌||◌, eqb, ltb, List, [], ◌∷◌, ◌++◌, map, length, get_or}
use Rattle.catalogue.specs.Checks.{same, has_list}
use Rattle.subject.specs.Problem.{Problem}
use Rattle.subject.specs.Decisions.{Decision}
use Rattle.subject.specs.Plans.{Plan}
use Rattle.subject.specs.Logs.{Answer, plan, none}
use Rattle.examples.proofs.Tests.{below}
use Rattle.examples.proofs.Reckoner.{Table, listed, any_list, allows, placed}

-- a plan meets every sheet and every decision
abbrev pub suits : Problem → List Decision → List ℕ → ℕ → Bool
suits P D p s = ltb (get_or p s 0) (get_or P.sizes s 0) && allows D s (get_or p s 0)

abbrev pub obeys : Problem → List ℕ → ℕ → Bool
obeys P p k = P.admits k (map (λ s. get_or p s 0) (P.scope k))

unfoldable pub meets : Problem → List Decision → List ℕ → Bool
meets P D p =
    placed P && (eqb (length p) (length P.sizes) && (below (length P.sizes) (suits P D p) && below P.sheets (obeys P p)))

-- of all plans that meet all, none passes
unfoldable pub no_plan : Problem → List Decision → (List ℕ → Bool) → Bool
no_plan P D f = not (any_list (λ p. meets P D p && f p) (listed (λ s o. true) 0 P.sizes))

-- dictionary order
abbrev pub before : List ℕ → List ℕ → Bool
before [] q = false
before (a ∷ p) [] = false
before (a ∷ p) (b ∷ q) = ltb a b || (eqb a b && before p q)

-- these plans meet all, no other does, and each comes before those behind it
unfoldable pub plans : Problem → List Decision → Table → Bool
plans P D ps =
    below (length ps) (λ i. meets P D (get_or ps i []))
    && (no_plan P D (λ p. not (has_list p ps)) && below (length ps) (λ j. below j (λ i. before (get_or ps i []) (get_or ps j []))))

-- the plan comes after all of the list
abbrev pub behind : List Plan → Plan → Bool
behind [] p = true
behind (g ∷ G) p = before g p && behind G p

-- all lists that pass and have an option from each of these, in dictionary order
abbrev pub each_of : (ℕ → List Plan) → List ℕ → List Plan
each_of f [] = []
each_of f (o ∷ os) = map (λ l. o ∷ l) (f o) ++ each_of f os

abbrev pub each_list : (List ℕ → Bool) → Table → List Plan
each_list f [] = cond (f []) ([] ∷ []) []
each_list f (os ∷ rest) = each_of (λ o. each_list (λ l. f (o ∷ l)) rest) os

unfoldable pub left : Problem → List Decision → List Plan → List Plan
left P D G = each_list (λ p. meets P D p && behind G p) (listed (λ s o. true) 0 P.sizes)

-- the first of them
abbrev pub next_of : List Plan → Answer
next_of [] = none
next_of (p ∷ ps) = plan p

-- no plan that comes after those given is left, or none comes before p
abbrev pub is_next : Problem → List Decision → List Plan → List Plan → Bool
is_next P D G [] = no_plan P D (behind G)
is_next P D G (p ∷ ps) = meets P D p && (behind G p && no_plan P D (λ q. behind G q && not (same p q || before p q)))
