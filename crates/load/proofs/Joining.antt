-- An option is supported where its weight, joined to the least of the others, is at most the cap: over any
-- joining, and for every number of positions. Assumes nothing.
use Rattle.std.proofs.Common.{◌≡◌, ℕ, zero, suc, ◌<◌, List, [], ◌∷◌, length, get_or, set, sym, refl, ap, ◌∙◌, subst, ap₂, arith}
use Rattle.load.specs.Joins.{Joining, total, weigh, Least, Picked, Light}

picked_tail : (P : ℕ → ℕ → Type 0) (n x : ℕ) (l : List ℕ) → Picked P (suc n) (x ∷ l) → Picked (λ p. P (suc p)) n l
picked_tail P n x l k = record { long = omega (arith, k.long); each = λ p h. k.each (suc p) (omega arith) }

picked_cons : (P : ℕ → ℕ → Type 0) (n x : ℕ) (l : List ℕ) → P 0 x → Picked (λ p. P (suc p)) n l → Picked P (suc n) (x ∷ l)
picked_cons P n x l here k = record { long = omega (arith, k.long); each = go }
  where
    go : (p : ℕ) → p < suc n → P p (get_or (x ∷ l) p 0)
    go zero h = here
    go (suc p) h = k.each p (omega arith)

module _ {W : Type 0} (J : Joining W) where
  -- the least weight at each position
  abbrev pub LeastAt : (ℕ → ℕ → Type 0) → (ℕ → ℕ → W) → List W → Type 0
  LeastAt P w ms = (p : ℕ) → p < length ms → Least J (P p) (w p) (get_or ms p J.none)

  later : (P : ℕ → ℕ → Type 0) (w : ℕ → ℕ → W) (m : W) (ms : List W) → LeastAt P w (m ∷ ms) → LeastAt (λ p. P (suc p)) (λ p. w (suc p)) ms
  later P w m ms k p h = k (suc p) (omega arith)

  -- no list weighs less than the least weights joined
  low : (P : ℕ → ℕ → Type 0) (w : ℕ → ℕ → W) (ms : List W) (l : List ℕ) → LeastAt P w ms → Picked P (length ms) l → J.under (total J ms) (weigh J w l)
  low P w [] [] k s = J.self J.none
  low P w [] (x ∷ l) k s = absurd (omega (arith, s.long))
  low P w (m ∷ ms) [] k s = absurd (omega (arith, s.long))
  low P w (m ∷ ms) (x ∷ l) k s =
      J.grows m (w 0 x) (total J ms) (weigh J (λ p. w (suc p)) l)
      ((k 0 (omega arith)).least x (s.each 0 (omega arith)))
      (low (λ p. P (suc p)) (λ p. w (suc p)) ms l (later P w m ms k) (picked_tail P (length ms) x l s))

  -- the same with o at p
  low_set : (P : ℕ → ℕ → Type 0) (w : ℕ → ℕ → W) (ms : List W) (l : List ℕ) (p o : ℕ) → LeastAt P w ms → Picked P (length ms) l → p < length ms → get_or l p 0 ≡ o → J.under (total J (set ms p (w p o))) (weigh J w l)
  low_set P w [] l p o k s h e = absurd (omega arith)
  low_set P w (m ∷ ms) [] p o k s h e = absurd (omega (arith, s.long))
  low_set P w (m ∷ ms) (x ∷ l) zero o k s h e =
      J.grows (w 0 o) (w 0 x) (total J ms) (weigh J (λ p. w (suc p)) l)
      (subst (λ (y : ℕ). J.under (w 0 y) (w 0 x)) e (J.self (w 0 x)))
      (low (λ p. P (suc p)) (λ p. w (suc p)) ms l (later P w m ms k) (picked_tail P (length ms) x l s))
  low_set P w (m ∷ ms) (x ∷ l) (suc p) o k s h e =
      J.grows m (w 0 x) (total J (set ms p (w (suc p) o))) (weigh J (λ p. w (suc p)) l)
      ((k 0 (omega arith)).least x (s.each 0 (omega arith)))
      (low_set (λ p. P (suc p)) (λ p. w (suc p)) ms l p o (later P w m ms k) (picked_tail P (length ms) x l s) (omega arith) e)

  -- some list weighs as much as the least weights joined
  best : (P : ℕ → ℕ → Type 0) (w : ℕ → ℕ → W) (ms : List W) → LeastAt P w ms → (l : List ℕ) × Picked P (length ms) l × (weigh J w l ≡ total J ms)
  best P w [] k = ([], record { long = refl; each = λ p h. absurd (omega arith) }, refl)
  best P w (m ∷ ms) k =
      let here = k 0 (omega arith) in
      let t = best (λ p. P (suc p)) (λ p. w (suc p)) ms (later P w m ms k) in
      (here.at ∷ t.0, picked_cons P (length ms) here.at t.0 here.allowed t.1, ap₂ J.join here.is t.2)

  -- the same with o at p
  best_set : (P : ℕ → ℕ → Type 0) (w : ℕ → ℕ → W) (ms : List W) (p o : ℕ) → LeastAt P w ms → p < length ms → P p o → (l : List ℕ) × Picked P (length ms) l × (weigh J w l ≡ total J (set ms p (w p o))) × (get_or l p 0 ≡ o)
  best_set P w [] p o k h a = absurd (omega arith)
  best_set P w (m ∷ ms) zero o k h a =
      let t = best (λ p. P (suc p)) (λ p. w (suc p)) ms (later P w m ms k) in
      (o ∷ t.0, picked_cons P (length ms) o t.0 a t.1, ap (J.join (w 0 o)) t.2, refl)
  best_set P w (m ∷ ms) (suc p) o k h a =
      let here = k 0 (omega arith) in
      let t = best_set (λ p. P (suc p)) (λ p. w (suc p)) ms p o (later P w m ms k) (omega arith) a in
      (here.at ∷ t.0, picked_cons P (length ms) here.at t.0 here.allowed t.1, ap₂ J.join here.is t.2, t.3)

  -- one weight, and the others
  pub total_set : (ms : List W) (p : ℕ) (x : W) → p < length ms → total J (set ms p x) ≡ J.join x (total J (set ms p J.none))
  total_set [] p x h = absurd (omega arith)
  total_set (m ∷ ms) zero x h = ap (J.join x) (sym (J.neutral (total J ms)))
  total_set (m ∷ ms) (suc p) x h =
      let r : W = total J (set ms p J.none) in
      ap (J.join m) (total_set ms p x (omega arith)) ∙ sym (J.assoc m x r) ∙ ap (λ y. J.join y r) (J.comm m x) ∙ J.assoc x m r

  module _ (P : ℕ → ℕ → Type 0) (w : ℕ → ℕ → W) («cap» : W) (ms : List W) (p o : ℕ) (leasts : LeastAt P w ms) (hp : p < length ms) where
    -- at most the cap: supported
    pub light_if : P p o → J.under (J.join (w p o) (total J (set ms p J.none))) «cap» → Light J P w «cap» (length ms) p o
    light_if a h =
        let t = best_set P w ms p o leasts hp a in
        record { list = t.0; picked = t.1; holds = t.3; within = subst (λ (y : W). J.under y «cap») (sym (t.2 ∙ total_set ms p (w p o) hp)) h }

    -- supported: at most the cap
    pub light_only_if : Light J P w «cap» (length ms) p o → J.under (J.join (w p o) (total J (set ms p J.none))) «cap»
    light_only_if s =
        subst (λ (y : W). J.under y «cap») (total_set ms p (w p o) hp)
        (J.chain (total J (set ms p (w p o))) (weigh J w s.list) «cap» (low_set P w ms s.list p o leasts s.picked hp s.holds) s.within)
