-- Some list with an option from each of several passes a test just where the reckoner finds one. Assumes nothing.
use Rattle.std.proofs.Common.{◌≡◌, ℕ, zero, suc, ◌<◌, Bool, true, false, ◌||◌, T, eqb, List, [], ◌∷◌, length, get_or, sym, refl, ap, subst, arith}
use Rattle.catalogue.specs.Checks.{all, has}
use Rattle.examples.proofs.Tests.{and_is, or_left, or_right, eqb_is}
use Rattle.examples.proofs.Reckoner.{Table, any_of, any_list}

-- the list has an option from each
abbrev pub Picks : Table → List ℕ → Type 0
Picks B l = (length l ≡ length B) × ((i : ℕ) → i < length B → T (has (get_or l i 0) (get_or B i [])))

pub all_has : (f : ℕ → Bool) (os : List ℕ) → T (all f os) → (o : ℕ) → T (has o os) → T (f o)
all_has f [] t o h = absurd h
all_has f (x ∷ os) t o h = let b = (and_is (f x) (all f os)).0 t in go (eqb o x) (eqb_is o x).0 b.0 (all_has f os b.1 o) h
  where
    go : (b : Bool) → (T b → o ≡ x) → T (f x) → (T (has o os) → T (f o)) → T (b || has o os) → T (f o)
    go true e p r u = subst (λ z. T (f z)) (sym (e tt)) p
    go false e p r u = r u

any_from : (f : ℕ → Bool) (os : List ℕ) → T (any_of f os) → (o : ℕ) × T (has o os) × T (f o)
any_from f [] t = absurd t
any_from f (x ∷ os) t = go (f x) refl (any_from f os) t
  where
    go : (b : Bool) → f x ≡ b → (T (any_of f os) → (o : ℕ) × T (has o os) × T (f o)) → T (b || any_of f os) → (o : ℕ) × T (has o (x ∷ os)) × T (f o)
    go true e r u = (x, or_left (eqb x x) (has x os) ((eqb_is x x).1 refl), subst T (sym e) tt)
    go false e r u = let w = r u in (w.0, or_right (eqb w.0 x) (has w.0 os) w.1, w.2)

any_to : (f : ℕ → Bool) (os : List ℕ) (o : ℕ) → T (has o os) → T (f o) → T (any_of f os)
any_to f [] o h t = h
any_to f (x ∷ os) o h t = go (eqb o x) (eqb_is o x).0 (λ k. any_to f os o k t) h
  where
    go : (b : Bool) → (T b → o ≡ x) → (T (has o os) → T (any_of f os)) → T (b || has o os) → T (f x || any_of f os)
    go true e r u = or_left (f x) (any_of f os) (subst (λ z. T (f z)) (e tt) t)
    go false e r u = or_right (f x) (any_of f os) (r u)

pub list_from : (f : List ℕ → Bool) (B : Table) → T (any_list f B) → (l : List ℕ) × Picks B l × T (f l)
list_from f [] t = ([], (refl, λ i h. absurd (omega arith)), t)
list_from f (os ∷ rest) t =
    let w = any_from (λ o. any_list (λ l. f (o ∷ l)) rest) os t in
    let r = list_from (λ l. f (w.0 ∷ l)) rest w.2 in
    (w.0 ∷ r.0, (ap suc r.1.0, at w.0 r.0 w.1 r.1.1), r.2)
  where
    at : (o : ℕ) (l : List ℕ) → T (has o os) → ((i : ℕ) → i < length rest → T (has (get_or l i 0) (get_or rest i [])))
        → (i : ℕ) → i < length (os ∷ rest) → T (has (get_or (o ∷ l) i 0) (get_or (os ∷ rest) i []))
    at o l h g zero lt = h
    at o l h g (suc i) lt = g i (omega arith)

pub list_to : (f : List ℕ → Bool) (B : Table) (l : List ℕ) → Picks B l → T (f l) → T (any_list f B)
list_to f [] [] p t = t
list_to f [] (x ∷ l) p t = absurd (omega (arith, p.0))
list_to f (os ∷ rest) [] p t = absurd (omega (arith, p.0))
list_to f (os ∷ rest) (x ∷ l) p t =
    any_to (λ o. any_list (λ m. f (o ∷ m)) rest) os x (p.1 0 (omega arith))
    (list_to (λ m. f (x ∷ m)) rest l (omega (arith, p.0), λ i h. p.1 (suc i) (omega arith)) t)
