-- A read into the part of a buffer behind its front. Assumes nothing.
use Rattle.std.proofs.Common.{◌≡◌, ℕ, ◌≤◌, List, ◌++◌, IfOk, Option, Result, Ok, Err, length, take, drop, sym, ap, subst, ◌∙◌, drop_at}
use Rattle.std.proofs.Math.Seq.{take-append-le}
use Rattle.std.specs.Io.KnownBytes.{Consumes}

-- what was read into the part stands behind the front
pub taken_behind : {E : Type 0} (a b : Option (List ℕ)) (r : Result ℕ E) (front part rest : List ℕ) (at : ℕ) → length front ≡ at → IfOk r (λ n. n ≤ length part)
    → IfOk r (λ n. Consumes a b (take n part)) → IfOk r (λ n. Consumes a b (take n (drop at (front ++ (part ++ rest)))))
taken_behind a b (Ok n) front part rest at long fits read =
    subst (Consumes a b) (sym (ap (take n) (drop_at front (part ++ rest) at long) ∙ take-append-le n part rest fits)) read
taken_behind a b (Err e) front part rest at long fits read = tt
