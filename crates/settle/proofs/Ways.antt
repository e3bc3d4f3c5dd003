-- A result goes one of two ways. Assumes nothing.
use Rattle.std.proofs.Common.{Ok, Err, Result, MatchResult}

pub by_ways : {A E G : Type 0} (r : Result A E) (P : A → Type 0) (Q : E → Type 0) → MatchResult r P Q → ((x : A) → P x → G) → ((e : E) → Q e → G) → G
by_ways (Ok x) P Q h f g = f x h
by_ways (Err e) P Q h f g = g e h
