-- What two binders mean as one: the sheets of the first come first. Assumes nothing.
use Rattle.std.specs.Prelude.{◌≡◌, ℕ, ◌+◌, ◌-◌, ◌<◌, ◌≤◌, min, Bool, true, false, cond, ◌&&◌, T, List, length, ◌==◌, ◌≢◌, nat_lt, slice_index}
use Rattle.std.proofs.Common.{sym, subst, ⊎_elim, arith}
use Rattle.std.proofs.lemmas.Bool.{cases_lt, lt-ltb, le-ltb, cond-true, cond-false}
use Rattle.binder.specs.declared.join.Join.{Join}
use Rattle.binder.specs.Meaning.{Binding, Proper, Listed, SameLists, kept_first}

-- the first k sheets are those of a, the others those of b
unfoldable pub glue : ℕ → Binding → Binding → Binding
glue k a b = record {
  count = min (k + b.count) 1024;
  scope = λ s. cond (nat_lt s k) (a.scope s) (b.scope (s - k));
  kept = λ s l. cond (nat_lt s k) (a.kept s l) (b.kept (s - k) l);
  marks = a.marks;
  marked = λ i s l. cond (nat_lt s k) (a.marked i s l) (b.marked i (s - k) l);
}

abbrev pub joined : Binding → Binding → Binding
joined a b = glue a.count a b

-- both where t is true and they have the same number of marks, and else the first alone
abbrev pub paired : Bool → Binding → Binding → Binding
paired t a b = cond (t && a.marks == b.marks) (joined a b) a

-- what a join means, by what the two that it holds mean
abbrev pub meaning_of : {A B : Type 0} → (A → Binding) → (B → Binding) → Join A B → Binding
meaning_of f g j = paired j.both (f j.first) (g j.second)

-- m has no marks, and the sheets of a and then those of b, up to number 1023; each keeps what it kept at the
-- oldest of its marks, or keeps where it has none
pub record Beside (a b m : Binding) : Type 0 where
  pub count : m.count ≡ min (a.count + b.count) 1024
  pub first_scope : (s : ℕ) → s < a.count → m.scope s ≡ a.scope s
  pub first_kept : (s : ℕ) → s < a.count → SameLists (m.kept s) (kept_first a s)
  pub second_scope : (s : ℕ) → m.scope (a.count + s) ≡ b.scope s
  pub second_kept : (s : ℕ) → SameLists (m.kept (a.count + s)) (kept_first b s)
  pub marks : m.marks ≡ 0

pub glue_first : (k : ℕ) (a b : Binding) (s : ℕ) → s < k → (glue k a b).scope s ≡ a.scope s
unfolding glue
glue_first k a b s h = cond-true (nat_lt s k) (a.scope s) (b.scope (s - k)) (lt-ltb s k h)

pub glue_second : (k : ℕ) (a b : Binding) (s : ℕ) → k ≤ s → (glue k a b).scope s ≡ b.scope (s - k)
unfolding glue
glue_second k a b s h = cond-false (nat_lt s k) (a.scope s) (b.scope (s - k)) (le-ltb s k h)

-- what holds of each scope of the two holds of each of both
glue_scopes : (P : List ℕ → Type 0) (a b : Binding)
    → ((s : ℕ) → s < a.count → P (a.scope s)) → ((s : ℕ) → s < b.count → P (b.scope s))
    → (s : ℕ) → s < min (a.count + b.count) 1024 → P ((joined a b).scope s)
glue_scopes P a b f g s h = ⊎_elim
    (λ lt. subst P (sym (glue_first a.count a b s lt)) (f s lt))
    (λ ge. subst P (sym (glue_second a.count a b s ge)) (g (s - a.count) (omega arith)))
    (cases_lt s a.count)

-- a list of one of two sheets is listed in the scope of that one
cond_listed : (t x y : Bool) (u v l : List ℕ) → (T x → Listed u l) → (T y → Listed v l) → T (cond t x y) → Listed (cond t u v) l
cond_listed true x y u v l f g = f
cond_listed false x y u v l f g = g

pub joined_proper : (a b : Binding) → Proper a → Proper b → Proper (joined a b)
unfolding glue
joined_proper a b pa pb = record {
  few = omega arith;
  low = pa.low;
  some = glue_scopes (λ x. 1 ≤ length x) a b pa.some pb.some;
  short = glue_scopes (λ x. length x ≤ 8) a b pa.short pb.short;
  apart = λ s p q h. glue_scopes (λ x. p < q → q < length x → slice_index x p ≢ slice_index x q) a b
      (λ t. pa.apart t p q) (λ t. pb.apart t p q) s h;
  listed = λ s l. cond_listed (nat_lt s a.count) (a.kept s l) (b.kept (s - a.count) l)
      (a.scope s) (b.scope (s - a.count)) l (pa.listed s l) (pb.listed (s - a.count) l);
  listed_then = λ i s l. cond_listed (nat_lt s a.count) (a.marked i s l) (b.marked i (s - a.count) l)
      (a.scope s) (b.scope (s - a.count)) l (pa.listed_then i s l) (pb.listed_then i (s - a.count) l);
}

cond_proper : (t : Bool) (m n : Binding) → Proper m → Proper n → Proper (cond t m n)
cond_proper true m n pm pn = pm
cond_proper false m n pm pn = pn

pub paired_proper : (t : Bool) (a b : Binding) → Proper a → Proper b → Proper (paired t a b)
paired_proper t a b pa pb = cond_proper (t && a.marks == b.marks) (joined a b) a (joined_proper a b pa pb) pa

pub proper_of : {A B : Type 0} (f : A → Binding) (g : B → Binding) → ((a : A) → Proper (f a)) → ((b : B) → Proper (g b)) → (j : Join A B) → Proper (meaning_of f g j)
proper_of f g pf pg j = paired_proper j.both (f j.first) (g j.second) (pf j.first) (pg j.second)
