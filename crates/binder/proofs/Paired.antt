-- The pair, where its parts go together and where they do not. Assumes nothing.
use Rattle.std.proofs.Common.{◌≡◌, ℕ, ◌+◌, ◌-◌, ◌<◌, ◌≤◌, min, Bool, true, false, cond, ◌&&◌, eqb, ltb, List, length, get_or, Ok, Err, Result, sym, refl, ap, ◌∙◌, subst, ⊎_elim, arith, MatchResult}
use Rattle.std.proofs.lemmas.Bool.{and_parts, and_from, eqb-true, eq-eqb, cases_lt, lt-ltb, le-ltb, cond-true, cond-false}
use Rattle.binder.specs.Meaning.{Binding, Proper, Shown, Noted, Undone, Cleared, arity_of, slot_at}
use Rattle.binder.specs.Joined.{glue, joined, paired, glue_first, glue_second, Beside}
use Rattle.binder.proofs.Glued.{joined_shown_first, joined_shown_second, glue_noted, glue_undone, joined_beside}

-- of a result that is not refused
pub given_ok : {X E : Type 0} (r : Result X E) {P : X → Type 0} {Q : E → Type 0} {G : Type 0} → MatchResult r P Q → ((e : E) → Q e → ⊥) → ((x : X) → P x → G) → G
given_ok (Ok x) h not f = f x h
given_ok (Err e) h not f = absurd (not e h)

pub paired_marks : (t : Bool) (a b : Binding) → (cond t (joined a b) a).marks ≡ a.marks
unfolding glue
paired_marks true a b = refl
paired_marks false a b = refl

pub joined_count : (a b : Binding) → (joined a b).count ≡ min (a.count + b.count) 1024
unfolding glue
joined_count a b = refl

-- sheet s of m answers as sheet r of a: both are there or neither is, with the same scope
pub record Answers (a : Binding) (r : ℕ) (m : Binding) (s : ℕ) : Type 0 where
  pub there : ltb r a.count ≡ ltb s m.count
  pub scope : a.scope r ≡ m.scope s

pub same_arity : (a : Binding) (r : ℕ) (m : Binding) (s : ℕ) → Answers a r m s → arity_of a r ≡ arity_of m s
same_arity a r m s h = ap (λ t. cond t (Ok (length (a.scope r))) (Err 31)) h.there ∙ ap (λ z. cond (ltb s m.count) (Ok (length z)) (Err 31)) h.scope

pub same_slot : (a : Binding) (r : ℕ) (m : Binding) (s p : ℕ) → Answers a r m s → slot_at a r p ≡ slot_at m s p
same_slot a r m s p h =
    ap (λ t. cond t (cond (ltb p (length (a.scope r))) (Ok (get_or (a.scope r) p 0)) (Err 31)) (Err 31)) h.there
    ∙ ap (λ z. cond (ltb s m.count) (cond (ltb p (length z)) (Ok (get_or z p 0)) (Err 31)) (Err 31)) h.scope

-- a sheet of the first
pub first_there : (t : Bool) (a b : Binding) (s : ℕ) → Proper a → s < a.count → s < (cond t (joined a b) a).count
first_there true a b s pa h = omega (arith, pa.few, joined_count a b)
first_there false a b s pa h = h

first_scope : (t : Bool) (a b : Binding) (s : ℕ) → s < a.count → (cond t (joined a b) a).scope s ≡ a.scope s
first_scope true a b s h = glue_first a.count a b s h
first_scope false a b s h = refl

pub first_answers : (t : Bool) (a b : Binding) (s : ℕ) → Proper a → s < a.count → Answers a s (cond t (joined a b) a) s
first_answers t a b s pa h = record {
  there = lt-ltb s a.count h ∙ sym (lt-ltb s (cond t (joined a b) a).count (first_there t a b s pa h));
  scope = sym (first_scope t a b s h);
}

cond_shown : (t : Bool) (a a' b : Binding) (s : ℕ) (x y : List ℕ) → s < a.count → Shown a a' s x y → Shown (cond t (joined a b) a) (cond t (joined a' b) a') s x y
cond_shown true a a' b s x y h shown = joined_shown_first a a' b s x y h shown
cond_shown false a a' b s x y h shown = shown

pub paired_shown_first : (t : Bool) (a a' b : Binding) (s : ℕ) (x y : List ℕ) → s < a.count → Shown a a' s x y → Shown (paired t a b) (paired t a' b) s x y
paired_shown_first t a a' b s x y h shown =
    subst (λ (n : ℕ). Shown (paired t a b) (cond (t && eqb n b.marks) (joined a' b) a') s x y) (sym shown.marks)
    (cond_shown (t && eqb a.marks b.marks) a a' b s x y h shown)

-- past both, or past the first alone
pub past_all : (t : Bool) (a b : Binding) (s : ℕ) → Proper (paired t a b) → 1024 ≤ s → (paired t a b).count ≤ s
past_all t a b s p h = omega (arith, p.few)

pub past_first : (t : Bool) (a b : Binding) (s : ℕ) → (t && eqb a.marks b.marks) ≡ false → a.count ≤ s → (paired t a b).count ≤ s
past_first t a b s e h = subst (λ (m : Binding). m.count ≤ s) (sym (cond-false (t && eqb a.marks b.marks) (joined a b) a e)) h

-- The parts go together.
module _ (t : Bool) (a b : Binding) (e : (t && eqb a.marks b.marks) ≡ true) where
  pub level_marks : a.marks ≡ b.marks
  level_marks = eqb-true a.marks b.marks (and_parts t (eqb a.marks b.marks) e).1

  pub level_is : paired t a b ≡ joined a b
  level_is = cond-true (t && eqb a.marks b.marks) (joined a b) a e

  -- still together where the marks of both are as many
  level_again : (a' b' : Binding) → a'.marks ≡ b'.marks → paired t a' b' ≡ joined a' b'
  level_again a' b' f = cond-true (t && eqb a'.marks b'.marks) (joined a' b') a'
      (and_from t (eqb a'.marks b'.marks) (and_parts t (eqb a.marks b.marks) e).0 (eq-eqb a'.marks b'.marks f))

  pub level_count : (paired t a b).count ≡ min (a.count + b.count) 1024
  level_count = ap (λ m. m.count) level_is ∙ joined_count a b

  -- sheet `place` of the second is sheet s of both
  module _ (place s : ℕ) (is : s ≡ a.count + place) where
    at_place : s - a.count ≡ place
    at_place = omega arith

    pub second_there : s < 1024 → place < b.count → s < (paired t a b).count
    second_there few lt = omega (arith, level_count)

    pub second_past : b.count ≤ place → (paired t a b).count ≤ s
    second_past ge = omega (arith, level_count)

    pub second_answers : s < 1024 → Answers b place (paired t a b) s
    second_answers few = record {
      there = ⊎_elim
          (λ lt. lt-ltb place b.count lt ∙ sym (lt-ltb s (paired t a b).count (second_there few lt)))
          (λ ge. le-ltb place b.count ge ∙ sym (le-ltb s (paired t a b).count (second_past ge))) (cases_lt place b.count);
      scope = sym (ap (λ m. m.scope s) level_is ∙ glue_second a.count a b s (omega arith) ∙ ap b.scope at_place);
    }

  both_ways : (R : Binding → Binding → Type 0) (a' b' : Binding) → a'.marks ≡ b'.marks → R (joined a b) (joined a' b') → R (paired t a b) (paired t a' b')
  both_ways R a' b' f h = subst (λ (m : Binding). R m (paired t a' b')) (sym level_is) (subst (λ (n : Binding). R (joined a b) n) (sym (level_again a' b' f)) h)

  pub paired_shown_second : (b' : Binding) (place s : ℕ) (x y : List ℕ) → s ≡ a.count + place → Shown b b' place x y → Shown (paired t a b) (paired t a b') s x y
  paired_shown_second b' place s x y is shown = both_ways (λ m n. Shown m n s x y) a b' (level_marks ∙ sym shown.marks)
      (joined_shown_second a b b' s x y (omega arith) (subst (λ (p : ℕ). Shown b b' p x y) (sym (at_place place s is)) shown))

  pub paired_noted : (a' b' : Binding) → Noted a a' → Noted b b' → Noted (paired t a b) (paired t a' b')
  paired_noted a' b' f g = both_ways Noted a' b' (f.marks ∙ ap (λ n. n + 1) level_marks ∙ sym g.marks)
      (subst (λ (k : ℕ). Noted (joined a b) (glue k a' b')) (sym f.sheets.count) (glue_noted a.count a a' b b' level_marks f g))

  pub paired_undone : (a' b' : Binding) → Undone a a' → Undone b b' → Undone (paired t a b) (paired t a' b')
  paired_undone a' b' f g =
      let same : a'.marks ≡ b'.marks = omega (arith, f.marks, g.marks, level_marks) in
      both_ways Undone a' b' same
      (subst (λ (k : ℕ). Undone (joined a b) (glue k a' b')) (sym f.sheets.count) (glue_undone a.count a a' b b' same f g))

-- A call on the first, and where they go together on the second too, after which they go together as before.
module _ (R : Binding → Binding → Type 0) (t l : Bool) (a b a' b' : Binding) (e : l ≡ (t && eqb a.marks b.marks)) where
  pub both_next : l ≡ true → R (paired t a b) (paired t a' b') → R (paired t a b) (paired l a' b')
  both_next f h =
      let set : t ≡ true = (and_parts t (eqb a.marks b.marks) (sym e ∙ f)).0 in
      subst (λ (k : Bool). R (paired t a b) (paired k a' b')) (set ∙ sym f) h

  pub first_next : l ≡ false → R a a' → R (paired t a b) (paired l a' b')
  first_next f h =
      subst (λ (m : Binding). R m (paired l a' b')) (sym (cond-false (t && eqb a.marks b.marks) (joined a b) a (sym e ∙ f)))
      (subst (λ (k : Bool). R a (paired k a' b')) (sym f) h)

-- two cleared binders go together
pub paired_beside : (a a' b b' : Binding) → Cleared a a' → Cleared b b' → Beside a b (paired true a' b')
paired_beside a a' b b' f g =
    subst (λ (m : Binding). Beside a b m) (sym (level_is true a' b' (and_from true (eqb a'.marks b'.marks) refl (eq-eqb a'.marks b'.marks (f.marks ∙ sym g.marks)))))
    (joined_beside a a' b b' f g)
