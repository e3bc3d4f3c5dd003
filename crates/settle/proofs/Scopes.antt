-- The slots that the sheets of a binder name, gathered in sets. Assumes nothing.
use Rattle.std.proofs.Common.{◌≡◌, ℕ, ◌+◌, ◌<◌, ◌≤◌, Bool, true, false, cond, nat_lt, T, List, length, get_or, set, replicate, Ok, Err, Result, ◌∙◌, refl, sym, ap, subst, ⊎_elim, arith, ltb→lt, lt→ltb, length-set, get_or-set_other, get_or-set_same}
use Rattle.std.specs.Result.{result_unwrap_or}
use Rattle.std.proofs.lemmas.List.{get_or_past, get_or-replicate, length-replicate}
use Rattle.std.proofs.lemmas.Bool.{cases_eq, cases_lt}
use Rattle.std.proofs.lemmas.Nat.Bits.{bit_at-zero}
use Rattle.boxes.specs.Boxes.{Bit}
use Rattle.boxes.specs.Slots.{Added}
use Rattle.binder.specs.Meaning.{Binding, arity_of, slot_at}
use Rattle.binder.specs.declared.refusal.BinderRefusal.{BinderRefusal}
use Rattle.binder.specs.Refusals.{numbered}
use Rattle.binder.proofs.Numbers.{value_or}
use Rattle.settle.specs.Reach.{Named, Covering, Covers}

-- the set has the slots below 48 at the first n positions of sheet k
pub record Partly (m : Binding) (k n set : ℕ) : Type 0 where
  pub only : (t : ℕ) → Bit set t → (t < 48) × (k < m.count) × (p : ℕ) × (p < n) × (p < length (m.scope k)) × (get_or (m.scope k) p 0 ≡ t)
  pub each : (p : ℕ) → k < m.count → p < n → p < length (m.scope k) → get_or (m.scope k) p 0 < 48 → Bit set (get_or (m.scope k) p 0)

-- no slot is in the empty set
pub no_bit : (t : ℕ) → Bit 0 t → ⊥
unfolding Bit
no_bit t x = absurd (let y : ◌≡◌ {A = ℕ} 0 1 = sym (bit_at-zero t) ∙ x in omega arith)

pub partly_none : (m : Binding) (k : ℕ) → Partly m k 0 0
partly_none m k = record { only = λ t x. absurd (no_bit t x); each = λ p h lt lp low. absurd (omega arith) }

-- one position more
pub partly_more : (m : Binding) (k n set new slot : ℕ) → k < m.count → n < length (m.scope k) → slot ≡ get_or (m.scope k) n 0 → Partly m k n set → Added set new slot → Partly m k (n + 1) new
partly_more m k n set new slot hk hn e was a = record {
  only = λ t x. ⊎_elim
      (λ old. let w = was.only t old in (w.0, w.1, w.2, omega (arith, w.3), w.4, w.5))
      (λ q. (q.1, hk, n, omega arith, hn, sym e ∙ sym q.0))
      (a.only t x);
  each = λ p h lt lp low. ⊎_elim
      (λ q.
      let here : get_or (m.scope k) n 0 < 48 = subst (λ z. get_or (m.scope k) z 0 < 48) q low in
      subst (λ z. Bit new (get_or (m.scope k) z 0)) (sym q) (subst (Bit new) e (a.here (omega (arith, e, here)))))
      (λ ne. a.more _ (was.each p h (omega arith) lp low))
      (cases_eq p n);
}

pub named_all : (m : Binding) (k n set : ℕ) → (k < m.count → length (m.scope k) ≤ n) → Partly m k n set → Named m k set
named_all m k n set h was = record {
  only = λ t x. let w = was.only t x in (w.0, w.1, w.2, w.4, w.5);
  each = λ p hk hp low. was.each p hk (let l = h hk in omega arith) hp low;
}

-- no sheet has so high a number
pub named_past : (m : Binding) (k : ℕ) → m.count ≤ k → Named m k 0
named_past m k h = record { only = λ t x. absurd (no_bit t x); each = λ p hk hp low. absurd (omega arith) }

-- the sets of a table, one for each sheet
pub covers_named : (m : Binding) (masks : List ℕ) → ((k : ℕ) → Named m k (get_or masks k 0)) → Covers m.count m.scope masks
covers_named m masks named = record { each = λ k hk p. (named k).each p hk }

-- the same scopes have the same slots
pub covers_same : (n o : ℕ) (scope scope' : ℕ → List ℕ) (masks : List ℕ) → o ≡ n → ((k : ℕ) → scope' k ≡ scope k) → Covers n scope masks → Covers o scope' masks
covers_same n o scope scope' masks e f c = record {
  each = λ k hk. subst (λ x. Covering x (get_or masks k 0)) (sym (f k)) (c.each k (subst (λ x. k < x) e hk));
}

-- ---- the questions

pub if_lt : {A : Type 0} (a b : ℕ) (x y : A) → a < b → cond (nat_lt a b) x y ≡ x
if_lt a b x y h = go (nat_lt a b) (lt→ltb a b h)
  where
    go : (t : Bool) → T t → cond t x y ≡ x
    go true h = refl
    go false h = absurd h

pub if_not_lt : {A : Type 0} (a b : ℕ) (x y : A) → b ≤ a → cond (nat_lt a b) x y ≡ y
if_not_lt a b x y h = go (nat_lt a b) (λ t. let k = ltb→lt a b t in absurd (omega arith))
  where
    go : (t : Bool) → (T t → ⊥) → cond t x y ≡ y
    go true f = absurd (f tt)
    go false f = refl

-- the number of positions of a sheet that is there; none where it is not
pub positions : (m : Binding) (s n : ℕ) (r : Result ℕ BinderRefusal) → numbered r ≡ arity_of m s → n ≡ result_unwrap_or r 0 → s < m.count → n ≡ length (m.scope s)
positions m s n r e f h = f ∙ value_or r 0 ∙ ap (λ x. result_unwrap_or x 0) (e ∙ if_lt s m.count _ _ h)

pub there : (m : Binding) (s n p : ℕ) (r : Result ℕ BinderRefusal) → numbered r ≡ arity_of m s → n ≡ result_unwrap_or r 0 → p < n → s < m.count
there m s n p r e f h = go (nat_lt s m.count) refl (f ∙ value_or r 0 ∙ ap (λ x. result_unwrap_or x 0) e)
  where
    go : (t : Bool) → nat_lt s m.count ≡ t → n ≡ result_unwrap_or {E = ℕ} (cond t (Ok (length (m.scope s))) (Err 31)) 0 → s < m.count
    go true q g = ltb→lt s m.count (subst T (sym q) tt)
    go false q g = absurd (omega (arith, g, h))

-- the slot at a position that is there
pub slot_is : (m : Binding) (s p slot : ℕ) (r : Result ℕ BinderRefusal) → numbered r ≡ slot_at m s p → slot ≡ result_unwrap_or r 48 → s < m.count → p < length (m.scope s) → slot ≡ get_or (m.scope s) p 0
slot_is m s p slot r e f h k = f ∙ value_or r 48 ∙ ap (λ x. result_unwrap_or x 48) (e ∙ if_lt s m.count _ _ h ∙ if_lt p (length (m.scope s)) _ _ k)

-- ---- the table

pub record Filling (m : Binding) (masks : List ℕ) (n : ℕ) : Type 0 where
  pub long : length masks ≡ 1024
  pub done : (k : ℕ) → k < n → Named m k (get_or masks k 0)
  pub rest : (k : ℕ) → n ≤ k → get_or masks k 0 ≡ 0

pub filling_none : (m : Binding) → Filling m (replicate 1024 0) 0
filling_none m = record { long = length-replicate {A = ℕ} 1024 0; done = λ k h. absurd (omega arith); rest = λ k h. ⊎_elim (λ lt. get_or-replicate 1024 k 0 0 lt) (λ past. get_or_past (replicate 1024 0) k 0 (omega (arith, length-replicate {A = ℕ} 1024 0, past))) (cases_lt k 1024) }

pub filling_more : (m : Binding) (masks : List ℕ) (n new : ℕ) → n < 1024 → Filling m masks n → Named m n new → Filling m (set masks n new) (n + 1)
filling_more m masks n new low was named = record {
  long = length-set masks n new ∙ was.long;
  done = λ k h. ⊎_elim
      (λ e. subst (λ x. Named m x (get_or (set masks n new) x 0)) (sym e) (subst (Named m n) (sym (get_or-set_same masks n new 0 (omega (arith, was.long)))) named))
      (λ ne. subst (Named m k) (sym (get_or-set_other masks n k new 0 ne)) (was.done k (omega arith)))
      (cases_eq k n);
  rest = λ k h. get_or-set_other masks n k new 0 (λ e. absurd (omega (arith, e))) ∙ was.rest k (omega arith);
}

pub filled_up : (m : Binding) (masks : List ℕ) → m.count ≤ 1024 → Filling m masks m.count → (k : ℕ) → Named m k (get_or masks k 0)
filled_up m masks few was k = ⊎_elim (λ lt. was.done k lt) (λ past. subst (Named m k) (sym (was.rest k past)) (named_past m k past)) (cases_lt k m.count)
