-- Counting the numbers below n that meet P. Assumes nothing.
use Rattle.std.proofs.Common.{ℕ, ◌+◌, ◌<◌, [], ◌∷◌, sym, refl, subst, inl, inr, ⊎_elim, arith}
use Rattle.std.proofs.lemmas.Bool.{cases_eq}
use Rattle.bar.specs.Counted.{HowMany}

module _ (P : ℕ → Type 0) where
  pub counts_none : HowMany P 0 0
  counts_none = record { list = []; long = refl; once = tt; sound = λ v i. absurd i; complete = λ v h q. absurd (omega arith); few = omega arith }

  pub counts_yes : (n c : ℕ) → HowMany P n c → P n → HowMany P (n + 1) (c + 1)
  counts_yes n c k here = record {
    list = n ∷ k.list;
    long = omega (arith, k.long);
    once = (λ i. absurd (omega (arith, (k.sound n i).0)), k.once);
    sound = λ v. ⊎_elim (λ e. (omega arith, subst P (sym e) here)) (λ i. (omega (arith, (k.sound v i).0), (k.sound v i).1));
    complete = λ v h q. ⊎_elim (λ e. inl e) (λ ne. inr (k.complete v (omega arith) q)) (cases_eq v n);
    few = omega (arith, k.few);
  }

  pub counts_no : (n c : ℕ) → HowMany P n c → (P n → ⊥) → HowMany P (n + 1) c
  counts_no n c k none = record {
    list = k.list;
    long = k.long;
    once = k.once;
    sound = λ v i. (omega (arith, (k.sound v i).0), (k.sound v i).1);
    complete = λ v h q. ⊎_elim (λ e. absurd (none (subst P e q))) (λ ne. k.complete v (omega arith) q) (cases_eq v n);
    few = omega (arith, k.few);
  }

-- the same count of what is met by the same numbers
pub counts_same : (P Q : ℕ → Type 0) (n c : ℕ) → ((v : ℕ) → v < n → P v → Q v) → ((v : ℕ) → v < n → Q v → P v) → HowMany P n c → HowMany Q n c
counts_same P Q n c to from k = record {
  list = k.list;
  long = k.long;
  once = k.once;
  sound = λ v i. let t = k.sound v i in (t.0, to v t.0 t.1);
  complete = λ v h q. k.complete v h (from v h q);
  few = k.few;
}
