-- Tests as statements: what a test computes to, and what it then says. Assumes nothing.
use Rattle.std.proofs.Common.{◌≡◌, ℕ, zero, suc, ◌<◌, ◌≤◌, Bool, true, false, cond, not, ◌&&◌, ◌||◌, T, eqb, ltb, leb, ◌⊎◌, ◌↔◌, sym, refl, subst, inl, inr, arith, le→leb, eqb→eq, ltb→lt, lt→ltb, leb→le, T_not}
use native.Mathlib.Decide.{ℕ_discrete}
use lib.Dec.{eqb_refl, not_T}

pub and_is : (a b : Bool) → T (a && b) ↔ (T a × T b)
and_is true b = (λ t. (tt, t), λ t. t.1)
and_is false b = (λ t. absurd t, λ t. t.0)

pub or_left : (a b : Bool) → T a → T (a || b)
or_left true b t = tt
or_left false b t = absurd t

pub or_right : (a b : Bool) → T b → T (a || b)
or_right true b t = tt
or_right false b t = t

pub or_is : (a b : Bool) → T (a || b) ↔ (T a ⊎ T b)
or_is true b = (λ t. inl tt, λ h. tt)
or_is false b = (λ t. inr t, λ h. elim h [ inl u ↦ absurd u | inr u ↦ u ])

pub eqb_is : (m n : ℕ) → T (eqb m n) ↔ (m ≡ n)
eqb_is m n = (eqb→eq m n, λ e. subst (λ x. T (eqb m x)) e (eqb_refl m))

pub ltb_is : (m n : ℕ) → T (ltb m n) ↔ (m < n)
ltb_is m n = (ltb→lt m n, lt→ltb m n)

pub leb_is : (m n : ℕ) → T (leb m n) ↔ (m ≤ n)
leb_is m n = (leb→le m n, le→leb m n)

pub not_is : (a : Bool) → T (not a) ↔ (T a → ⊥)
not_is a = (T_not a, not_T a)

pub implies_is : (a b : Bool) → T (cond a b true) ↔ (T a → T b)
implies_is true b = (λ t u. t, λ f. f tt)
implies_is false b = (λ t u. absurd u, λ f. tt)

-- a value chosen by a test has what both choices have
pub chosen : {A : Type 0} (F : A → Type 0) (b : Bool) (x y : A) → (T b → F x) → ((T b → ⊥) → F y) → F (cond b x y)
chosen F true x y f g = f tt
chosen F false x y f g = g (λ t. t)

-- every number below n passes
abbrev pub below : ℕ → (ℕ → Bool) → Bool
below zero f = true
below (suc n) f = f n && below n f

pub below_is : (n : ℕ) (f : ℕ → Bool) → T (below n f) ↔ ((i : ℕ) → i < n → T (f i))
below_is zero f = (λ t i h. absurd (omega arith), λ g. tt)
below_is (suc n) f =
    let r = below_is n f in
    let b = and_is (f n) (below n f) in (
      λ t i h. elim (ℕ_discrete i n) [ yes e ↦ subst (λ x. T (f x)) (sym e) (b.0 t).0 | no ne ↦ r.0 (b.0 t).1 i (omega (arith, ne)) ],
      λ g. b.1 (g n (omega arith), r.1 (λ i h. g i (omega arith))),
    )

-- where not all pass, one does not
pub below_fails : (n : ℕ) (f : ℕ → Bool) → (T (below n f) → ⊥) → (i : ℕ) × (i < n) × (T (f i) → ⊥)
below_fails zero f g = absurd (g tt)
below_fails (suc n) f g = go (f n) refl (below_fails n f)
  where
    go : (b : Bool) → f n ≡ b → ((T (below n f) → ⊥) → (i : ℕ) × (i < n) × (T (f i) → ⊥)) → (i : ℕ) × (i < suc n) × (T (f i) → ⊥)
    go true e r =
        let w = r (λ t. g ((and_is (f n) (below n f)).1 (subst T (sym e) tt, t))) in
        (w.0, omega (arith, w.1), w.2)
    go false e r = (n, omega arith, λ t. subst T e t)
