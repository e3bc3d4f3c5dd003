-- A box written out as a table opens what it opened of the options that there are. Assumes nothing.
use Rattle.std.proofs.Common.{◌≡◌, ℕ, zero, suc, ◌+◌, ◌<◌, ◌≤◌, Bool, true, false, cond, ◌||◌, T, eqb, ◌↔◌, List, [], ◌∷◌, length, get_or, sym, refl, ap, subst, add-zero, arith}
use native.Mathlib.Decide.{ℕ_discrete}
use Rattle.catalogue.specs.Checks.{has}
use Rattle.subject.specs.Problem.{Problem, Real}
use Rattle.subject.specs.Boxes.{Box}
use Rattle.examples.proofs.Tests.{eqb_is}
use Rattle.examples.proofs.Reckoner.{opens, passing, listed}

passing_from : (f : ℕ → Bool) (a n o : ℕ) → T (has o (passing f a n)) → (o < a + n) × T (f o)
passing_from f a zero o t = absurd t
passing_from f a (suc n) o t =
    go (f a) refl (λ u. let w = passing_from f (suc a) n o u in (omega (arith, w.0), w.1)) t
  where
    first : (b : Bool) → (T b → o ≡ a) → T (f a) → (T (has o (passing f (suc a) n)) → (o < a + suc n) × T (f o))
        → T (b || has o (passing f (suc a) n)) → (o < a + suc n) × T (f o)
    first true e p r u = (omega (arith, e tt), subst (λ z. T (f z)) (sym (e tt)) p)
    first false e p r u = r u

    go : (b : Bool) → f a ≡ b → (T (has o (passing f (suc a) n)) → (o < a + suc n) × T (f o))
        → T (has o (cond b (a ∷ passing f (suc a) n) (passing f (suc a) n))) → (o < a + suc n) × T (f o)
    go true e r u = first (eqb o a) (eqb_is o a).0 (subst T (sym e) tt) r u
    go false e r u = r u

passing_to : (f : ℕ → Bool) (a n o : ℕ) → a ≤ o → o < a + n → T (f o) → T (has o (passing f a n))
passing_to f a zero o h k t = absurd (omega arith)
passing_to f a (suc n) o h k t = go (f a) refl (λ m. passing_to f (suc a) n o m (omega arith) t)
  where
    later : (b : Bool) → T b ↔ (o ≡ a) → (suc a ≤ o → T (has o (passing f (suc a) n))) → T (b || has o (passing f (suc a) n))
    later true e r = tt
    later false e r = r (omega (arith, e.1))

    go : (c : Bool) → f a ≡ c → (suc a ≤ o → T (has o (passing f (suc a) n)))
        → T (has o (cond c (a ∷ passing f (suc a) n) (passing f (suc a) n)))
    go true q r = later (eqb o a) (eqb_is o a) r
    go false q r =
        elim (ℕ_discrete o a) [ yes e ↦ absurd (subst T q (subst (λ z. T (f z)) e t)) | no ne ↦ r (omega (arith, ne)) ]

listed_from : (X : Box) (a : ℕ) (ns : List ℕ) (s o : ℕ) → T (opens (listed X a ns) s o) → (s < length ns) × (o < get_or ns s 0) × T (X (a + s) o)
listed_from X a [] s o t = absurd t
listed_from X a (n ∷ ns) zero o t =
    let w = passing_from (X a) 0 n o t in
    (omega arith, omega (arith, w.0), subst (λ z. T (X z o)) (sym (add-zero a)) w.1)
listed_from X a (n ∷ ns) (suc s) o t =
    let w = listed_from X (suc a) ns s o t in
    let e : suc a + s ≡ a + suc s = omega arith in
    (omega (arith, w.0), w.1, subst (λ z. T (X z o)) e w.2)

listed_to : (X : Box) (a : ℕ) (ns : List ℕ) (s o : ℕ) → s < length ns → o < get_or ns s 0 → T (X (a + s) o) → T (opens (listed X a ns) s o)
listed_to X a [] s o h k t = absurd (omega arith)
listed_to X a (n ∷ ns) zero o h k t = passing_to (X a) 0 n o (omega arith) (omega arith) (subst (λ z. T (X z o)) (add-zero a) t)
listed_to X a (n ∷ ns) (suc s) o h k t =
    let e : a + suc s ≡ suc a + s = omega arith in
    listed_to X (suc a) ns s o (omega arith) k (subst (λ z. T (X z o)) e t)

pub listed_is : (P : Problem) (X : Box) (s o : ℕ) → T (opens (listed X 0 P.sizes) s o) ↔ (Real P s o × T (X s o))
listed_is P X s o =
    let e : 0 + s ≡ s = omega arith in (
      λ t. let w = listed_from X 0 P.sizes s o t in ((w.0, w.1), subst (λ z. T (X z o)) e w.2),
      λ w. listed_to X 0 P.sizes s o w.0.0 w.0.1 (subst (λ z. T (X z o)) (sym e) w.1),
    )

pub listed_long : (X : Box) (a : ℕ) (ns : List ℕ) → length (listed X a ns) ≡ length ns
listed_long X a [] = refl
listed_long X a (n ∷ ns) = ap suc (listed_long X (suc a) ns)
