-- What additions in a row come to, each as long as the others. Assumes nothing.
use Rattle.std.proofs.Common.{◌≡◌, ℕ, ◌+◌, ◌-◌, ◌*◌, ◌≤◌, List, [], ◌∷◌, length, IfOk, Ok, Err, Result, Option, Some, None, MatchOption, IsErr, IsErrAnd, sym, refl, ap, ◌∙◌, subst, arith}
use Rattle.std.proofs.iter.Yields.{nat_range_steps}
use Rattle.std.proofs.lemmas.Result.{IfOk-from_err}
use Rattle.std.specs.declared.ops.Range.{Range}
use Rattle.std.specs.Iterator.{Yields, YieldsThen}
use Rattle.std.specs.List.{FoldsTo}
use denote.Param.Members.{Mut, Called}
use Prim.{tt}

module _ {F B X E : Type 0} (out : E → X) (g : Mut F (B × (ℕ × Unit {0})) (Result B X)) where
  -- a call at p and a number went on to q
  abbrev GoesOn : F × B → ℕ → F × B → Type 0
  GoesOn p i q = (r : Result B X) × Called g p.0 (p.1, (i, tt)) r q.0 × (r ≡ Ok q.1)

  -- what `try_fold` says of calls at the numbers of a range
  abbrev TriesEach : Range ℕ → F → B → Result B X → Range ℕ → Type 0
  TriesEach s f a r u = (xs : List ℕ) × (o : Option ℕ) × (h : F) × (b : B) × YieldsThen nat_range_steps s xs o u × FoldsTo {P = F × B} GoesOn (f, a) xs (h, b)
      × MatchOption o (r ≡ Ok b) (λ i. (v : Result B X) × (j : F) × (e : E) × Called g h (b, (i, tt)) v j × (v ≡ Err (out e)) × (IsErr r × IsErrAnd r (λ y. y ≡ out e)))

  module _ (f : F) (size : B → ℕ) (k : ℕ) (adds : (a : B) (i : ℕ) (r : Result B X) (j : F) → Called g f (a, (i, tt)) r j → (j ≡ f) × IfOk r (λ b. size b ≡ size a + k)) where
    turns : (xs : List ℕ) (s t : Range ℕ) (p q : F × B) → p.0 ≡ f → Yields nat_range_steps s xs t → FoldsTo GoesOn p xs q
        → (size q.1 ≡ size p.1 + k * length xs) × (t.end ≡ s.end) × (t.start ≡ s.start + length xs) × (length xs ≤ s.end - s.start)
    turns [] s t p q e y w =
        let same : size p.1 ≡ size q.1 = ap (λ (z : F × B). size z.1) w in
        let start : s.start ≡ t.start = ap (λ (z : Range ℕ). z.start) y in
        (omega (arith, same), sym (ap (λ (z : Range ℕ). z.end) y), omega (arith, start), omega arith)
    turns (x ∷ xs) s t p q e (j, y, ys) (m, (v, called, on), ws) =
        let one = adds p.1 x v m.0 (subst (λ h. Called g h (p.1, (x, tt)) v m.0) e called) in
        let longer : size m.1 ≡ size p.1 + k = subst (λ r. IfOk r (λ b. size b ≡ size p.1 + k)) on one.1 in
        let rest = turns xs j t m q one.0 ys ws in
        (omega (arith, longer, rest.0), rest.1 ∙ y.0, omega (arith, rest.2, y.1.2), omega (arith, rest.3, y.0, y.1.0, y.1.2))

    -- as many calls as the range has numbers, each of which makes it longer by k
    pub added : (s u : Range ℕ) (a : B) (r : Result B X) → TriesEach s f a r u → (n : ℕ) → k * (s.end - s.start) ≡ n → IfOk r (λ b. size b ≡ size a + n)
    added s u a r (xs, o, h, b, (t, ys, last), ws, end) n e = by o last end
      where
        by : (o : Option ℕ) → nat_range_steps t o u
            → MatchOption o (r ≡ Ok b) (λ i. (v : Result B X) × (j : F) × (e : E) × Called g h (b, (i, tt)) v j × (v ≡ Err (out e)) × (IsErr r × IsErrAnd r (λ y. y ≡ out e)))
            → IfOk r (λ b. size b ≡ size a + n)
        by None l m =
            let w = turns xs s t (f, a) (h, b) refl ys ws in
            let all : length xs ≡ s.end - s.start = omega (arith, w, l) in
            subst (λ r. IfOk r (λ b. size b ≡ size a + n)) (sym m) (w.0 ∙ ap (λ i. size a + i) (ap (λ i. k * i) all ∙ e))
        by (Some x) l m = IfOk-from_err r _ m.5.0
