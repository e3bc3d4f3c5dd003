-- What is done to the parts is done to both. Assumes nothing.
use Rattle.std.proofs.Common.{◌≡◌, ℕ, ◌+◌, ◌-◌, ◌<◌, ◌≤◌, min, Bool, true, false, cond, T, ltb, List, length, get_or, sym, refl, ap, ◌∙◌, subst, ⊎_elim, arith}
use Rattle.std.proofs.lemmas.Bool.{cases_lt, lt-ltb, le-ltb, cond-true, cond-false}
use Rattle.boxes.specs.Boxes.{Open, Fits}
use Rattle.binder.specs.Meaning.{Binding, SameLists, SameSheets, Held, Shown, Noted, Undone, Cleared}
use Rattle.binder.specs.Joined.{glue, joined, glue_first, glue_second, Beside}

cond_same : {X : Type 0} (t : Bool) (x x' y y' : X) → x ≡ x' → y ≡ y' → cond t x y ≡ cond t x' y'
cond_same true x x' y y' e f = e
cond_same false x x' y y' e f = f

-- sheet s of m is sheet r of a
pub record Like (a : Binding) (r : ℕ) (m : Binding) (s : ℕ) : Type 0 where
  pub scope : m.scope s ≡ a.scope r
  pub kept : SameLists (m.kept s) (a.kept r)

pub like_first : (k : ℕ) (a b : Binding) (s : ℕ) → s < k → Like a s (glue k a b) s
unfolding glue
like_first k a b s h = record {
  scope = glue_first k a b s h;
  kept = λ l. cond-true (ltb s k) (a.kept s l) (b.kept (s - k) l) (lt-ltb s k h);
}

pub like_second : (k : ℕ) (a b : Binding) (s : ℕ) → k ≤ s → Like b (s - k) (glue k a b) s
unfolding glue
like_second k a b s h = record {
  scope = glue_second k a b s h;
  kept = λ l. cond-false (ltb s k) (a.kept s l) (b.kept (s - k) l) (le-ltb s k h);
}

-- all but what sheet s keeps is the same
pub record Rest (m n : Binding) (s : ℕ) : Type 0 where
  pub others : (t : ℕ) → (t ≡ s → ⊥) → SameLists (n.kept t) (m.kept t)
  pub sheets : SameSheets m n
  pub marks : n.marks ≡ m.marks
  pub marked : (i t : ℕ) → SameLists (n.marked i t) (m.marked i t)

held_like : (a : Binding) (r : ℕ) (m : Binding) (s p o : ℕ) (x : List ℕ) → a.scope r ≡ m.scope s → SameLists (a.kept r) (m.kept s) → Held a x r p o → Held m x s p o
held_like a r m s p o x e same held = record {
  list = held.list;
  keeps = subst T (same held.list) held.keeps;
  fits = subst (λ (z : List ℕ). Fits x z held.list) e held.fits;
  holds = held.holds;
}

pub shown_like : (a a' : Binding) (r : ℕ) (m m' : Binding) (s : ℕ) (x y : List ℕ) → Like a r m s → Like a' r m' s → Rest m m' s → Shown a a' r x y → Shown m m' s x y
shown_like a a' r m m' s x y u v rest shown =
    let e : m.scope s ≡ a.scope r = u.scope in
    record {
      supported = λ p o hp h. held_like a r m s p o x (sym e) (λ l. sym (u.kept l))
          (shown.supported p o (subst (λ (z : List ℕ). p < length z) e hp) (subst (λ (z : List ℕ). Open y (get_or z p 0) o) e h));
      spared = λ p o hp held. subst (λ (z : List ℕ). Open y (get_or z p 0) o) (sym e)
          (shown.spared p o (subst (λ (z : List ℕ). p < length z) e hp) (held_like m s a r p o x e u.kept held));
      elsewhere = λ t off. shown.elsewhere t (subst (λ (z : List ℕ). (p : ℕ) → p < length z → get_or z p 0 ≡ t → ⊥) e off);
      only_closes = shown.only_closes;
      still = λ l k f. subst T (sym (v.kept l)) (shown.still l (subst T (u.kept l) k) (subst (λ (z : List ℕ). Fits x z l) e f));
      none_added = λ l k. subst T (sym (u.kept l)) (shown.none_added l (subst T (v.kept l) k));
      others = rest.others;
      sheets = rest.sheets;
      marks = rest.marks;
      marked = rest.marked;
    }

sheets_self : (m : Binding) → SameSheets m m
sheets_self m = record { count = refl; scope = λ s. refl }

module _ (k : ℕ) (a a' b b' : Binding) where
  glue_sheets : SameSheets a a' → SameSheets b b' → SameSheets (glue k a b) (glue k a' b')
  unfolding glue
  glue_sheets f g = record {
    count = ap (λ n. min (k + n) 1024) g.count;
    scope = λ s. cond_same (ltb s k) (a'.scope s) (a.scope s) (b'.scope (s - k)) (b.scope (s - k)) (f.scope s) (g.scope (s - k));
  }

  glue_kept : (s : ℕ) → SameLists (a'.kept s) (a.kept s) → SameLists (b'.kept (s - k)) (b.kept (s - k)) → SameLists ((glue k a' b').kept s) ((glue k a b).kept s)
  unfolding glue
  glue_kept s f g l = cond_same (ltb s k) (a'.kept s l) (a.kept s l) (b'.kept (s - k) l) (b.kept (s - k) l) (f l) (g l)

  glue_marked : (i s : ℕ) → SameLists (a'.marked i s) (a.marked i s) → SameLists (b'.marked i (s - k)) (b.marked i (s - k)) → SameLists ((glue k a' b').marked i s) ((glue k a b).marked i s)
  unfolding glue
  glue_marked i s f g l = cond_same (ltb s k) (a'.marked i s l) (a.marked i s l) (b'.marked i (s - k) l) (b.marked i (s - k) l) (f l) (g l)

  pub glue_noted : a.marks ≡ b.marks → Noted a a' → Noted b b' → Noted (glue k a b) (glue k a' b')
  unfolding glue
  glue_noted e f g = record {
    sheets = glue_sheets f.sheets g.sheets;
    kept = λ s. glue_kept s (f.kept s) (g.kept (s - k));
    marks = f.marks;
    older = λ i s h. glue_marked i s (f.older i s h) (g.older i (s - k) (subst (λ (n : ℕ). i < n) e h));
    newest = λ s l. cond_same (ltb s k) (a'.marked a.marks s l) (a.kept s l) (b'.marked a.marks (s - k) l) (b.kept (s - k) l)
        (f.newest s l) (ap (λ n. b'.marked n (s - k) l) e ∙ g.newest (s - k) l);
  }

  pub glue_undone : a'.marks ≡ b'.marks → Undone a a' → Undone b b' → Undone (glue k a b) (glue k a' b')
  unfolding glue
  glue_undone e f g = record {
    sheets = glue_sheets f.sheets g.sheets;
    kept = λ s l. cond_same (ltb s k) (a'.kept s l) (a.marked a'.marks s l) (b'.kept (s - k) l) (b.marked a'.marks (s - k) l)
        (f.kept s l) (g.kept (s - k) l ∙ ap (λ n. b.marked n (s - k) l) (sym e));
    marks = f.marks;
    older = λ i s h. glue_marked i s (f.older i s h) (g.older i (s - k) (subst (λ (n : ℕ). i < n) e h));
  }

-- a sheet of the first, shown
pub joined_shown_first : (a a' b : Binding) (s : ℕ) (x y : List ℕ) → s < a.count → Shown a a' s x y → Shown (joined a b) (joined a' b) s x y
unfolding glue
joined_shown_first a a' b s x y h shown = subst (λ (k : ℕ). Shown (joined a b) (glue k a' b) s x y) (sym shown.sheets.count)
    (shown_like a a' s (joined a b) (glue a.count a' b) s x y (like_first a.count a b s h) (like_first a.count a' b s h)
    (record {
      others = λ t ne. glue_kept a.count a a' b b t (shown.others t ne) (λ l. refl);
      sheets = glue_sheets a.count a a' b b shown.sheets (sheets_self b);
      marks = shown.marks;
      marked = λ i t. glue_marked a.count a a' b b i t (shown.marked i t) (λ l. refl);
    }) shown)

others_second : (a b b' : Binding) (s : ℕ) → a.count ≤ s → ((t : ℕ) → (t ≡ s - a.count → ⊥) → SameLists (b'.kept t) (b.kept t))
    → (t : ℕ) → (t ≡ s → ⊥) → SameLists ((joined a b').kept t) ((joined a b).kept t)
others_second a b b' s h same t ne = ⊎_elim
    (λ lt l. (like_first a.count a b' t lt).kept l ∙ sym ((like_first a.count a b t lt).kept l))
    (λ ge. glue_kept a.count a a b b' t (λ l. refl) (same (t - a.count) (λ e. ne (omega arith)))) (cases_lt t a.count)

-- a sheet of the second, shown
pub joined_shown_second : (a b b' : Binding) (s : ℕ) (x y : List ℕ) → a.count ≤ s → Shown b b' (s - a.count) x y → Shown (joined a b) (joined a b') s x y
unfolding glue
joined_shown_second a b b' s x y h shown =
    shown_like b b' (s - a.count) (joined a b) (joined a b') s x y (like_second a.count a b s h) (like_second a.count a b' s h)
    (record {
      others = others_second a b b' s h shown.others;
      sheets = glue_sheets a.count a a b b' (sheets_self a) shown.sheets;
      marks = refl;
      marked = λ i t. glue_marked a.count a a b b' i t (λ l. refl) (shown.marked i (t - a.count));
    }) shown

glue_beside : (a a' b b' : Binding) → Cleared a a' → Cleared b b' → Beside a b (glue a.count a' b')
unfolding glue
glue_beside a a' b b' f g =
    let back : (s : ℕ) → (a.count + s) - a.count ≡ s = λ s. omega arith in
    let past : (s : ℕ) → a.count ≤ a.count + s = λ s. omega arith in
    record {
      count = ap (λ n. min (a.count + n) 1024) g.sheets.count;
      first_scope = λ s h. (like_first a.count a' b' s h).scope ∙ f.sheets.scope s;
      first_kept = λ s h l. (like_first a.count a' b' s h).kept l ∙ f.kept s l;
      second_scope = λ s. (like_second a.count a' b' (a.count + s) (past s)).scope ∙ ap b'.scope (back s) ∙ g.sheets.scope s;
      second_kept = λ s l. (like_second a.count a' b' (a.count + s) (past s)).kept l ∙ ap (λ t. b'.kept t l) (back s) ∙ g.kept s l;
      marks = f.marks;
    }

-- two cleared binders, joined
pub joined_beside : (a a' b b' : Binding) → Cleared a a' → Cleared b b' → Beside a b (joined a' b')
joined_beside a a' b b' f g = subst (λ (k : ℕ). Beside a b (glue k a' b')) (sym f.sheets.count) (glue_beside a a' b b' f g)
