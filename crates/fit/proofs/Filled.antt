-- The runs of places as they are first laid. Assumes nothing.
use Rattle.std.proofs.Common.{◌≡◌, ℕ, zero, suc, ◌+◌, ◌/◌, ◌<◌, ◌≤◌, List, length, get_or, take, set, replicate, sym, refl, ap, ◌∙◌, subst, ⊎_elim, add-one, arith, length-set, get_or-set_other, get_or-set_same, get_or-take, below_more}
use borrow.Rule.Slice.PartMut.{mid_of, put_mid}
use Rattle.std.proofs.lemmas.Bool.{cases_eq}
use Rattle.std.proofs.lemmas.List.{get_or_default}
use Rattle.catalogue.specs.declared.view.View.{View}
use Rattle.sheets.proofs.Tabled.{shown_there}
use Rattle.fit.specs.Laid.{row_count, rows_before, Each, RunsApart, Numbered, Runs}
use Rattle.fit.proofs.Sifting.{lies_mid, replaced_mid}

-- a table filled entry by entry
pub each_none : (f : ℕ → ℕ) → Each f (replicate 64 0) 0
each_none f = record { long = refl; is = λ s h. absurd (omega arith) }

pub each_more : (f : ℕ → ℕ) (xs : List ℕ) (k v : ℕ) → k < 64 → v ≡ f k → Each f xs k → Each f (set xs k v) (k + 1)
each_more f xs k v lt e x =
    record {
      long = length-set xs k v ∙ x.long;
      is = λ s h.
          ⊎_elim
          (λ q. ap (λ i. get_or (set xs k v) i 0) q ∙ get_or-set_same xs k v 0 (omega (arith, x.long)) ∙ e ∙ ap f (sym q))
          (λ ne. get_or-set_other xs k s v 0 ne ∙ x.is s (omega arith))
          (cases_eq s k);
    }

-- the rows before a sheet
pub before_more : (views : List View) (s : ℕ) → rows_before views (s + 1) ≡ rows_before views s + row_count views s
before_more views s = ap (rows_before views) (add-one s)

pub before_up : (views : List View) (s t : ℕ) → s ≤ t → rows_before views s ≤ rows_before views t
before_up views s zero h = let e : s ≡ 0 = omega arith in subst (λ k. rows_before views k ≤ 0) (sym e) (omega arith)
before_up views s (suc t) h =
    ⊎_elim
    (λ e. subst (λ k. rows_before views k ≤ rows_before views (suc t)) (sym e) (omega arith))
    (λ ne. omega (arith, before_up views s t (omega arith)))
    (cases_eq s (suc t))

-- how many rows a view among the first n shows
pub rows_here : (views : List View) (n s : ℕ) (d : View) → s < n → n ≤ length views → length (get_or (take n views) s d).entries.now / 9 ≡ row_count views s
unfolding row_count
rows_here views n s d h le =
    let v = get_or (take n views) s d in
    let here : v ≡ get_or views s v = get_or-take n views s d h ∙ get_or_default views s d v (omega arith) in
    ap (λ x. length x.entries / 9) (shown_there views s v (omega arith) here)

-- a sheet's own rows come before the next sheet
pub before_next : (views : List View) (s t : ℕ) → s < t → rows_before views s + row_count views s ≤ rows_before views t
before_next views s t h = before_up views (suc s) t h

-- one run
pub numbered_more : (xs ys : List ℕ) (k : ℕ) → k < length xs → ys ≡ set xs k k → Numbered xs k → Numbered ys (k + 1)
numbered_more xs ys k lt e x =
    record {
      each = below_more (λ p. get_or ys p 0 ≡ p) k
          (λ p h. ap (λ l. get_or l p 0) e ∙ get_or-set_other xs k p k 0 (λ q. omega arith) ∙ x.each p h)
          (ap (λ l. get_or l k 0) e ∙ get_or-set_same xs k k 0 lt);
    }

-- a run that lies from `from` on, and places under it that are as they were
pub record Run (xs ys : List ℕ) (from n : ℕ) : Type 0 where
  pub here : (p : ℕ) → p < n → get_or ys (from + p) 0 ≡ p
  pub under : (p : ℕ) → p < from → get_or ys p 0 ≡ get_or xs p 0

pub run_laid : (xs next : List ℕ) (from k n : ℕ) → k ≡ n → from + n ≤ length xs → length next ≡ n → Numbered next n → Run xs (put_mid from k xs next) from n
run_laid xs next from k n e h long x =
    let r = replaced_mid xs next from k n e h long in
    record { here = λ p lt. r.is.at p lt ∙ x.each p lt; under = r.under }

-- one run after another
runs_more : (starts counts order next : List ℕ) (k n : ℕ) → k < n → RunsApart starts counts n → Run order next (get_or starts k 0) (get_or counts k 0) → Runs starts counts order k → Runs starts counts next (k + 1)
runs_more starts counts order next k n lt a r x =
    record {
      each = λ s p h q.
          ⊎_elim
          (λ e. subst (λ i. p < get_or counts i 0 → get_or next (get_or starts i 0 + p) 0 ≡ p) (sym e) (r.here p) q)
          (λ ne. let l : s < k = omega arith in r.under (get_or starts s 0 + p) (omega (arith, a.apart s k l lt)) ∙ x.each s p l q)
          (cases_eq s k);
    }

pub runs_next : (starts counts order next : List ℕ) (i m n from k count : ℕ) → i < n → RunsApart starts counts n → from ≡ get_or starts i 0 → count ≡ get_or counts i 0 → m ≡ i + 1 → k ≡ count → length order ≡ 4096
    → length next ≡ length (mid_of from k order) → Numbered next (length (mid_of from k order)) → Runs starts counts order i → Runs starts counts (put_mid from k order next) m
runs_next starts counts order next i m n from k count lt a at is one e room long x runs =
    let fits : from + count ≤ length order = omega (arith, a.room i lt) in
    let mid : length (mid_of from k order) ≡ count = (lies_mid order from k count e fits).long in
    let run : Run order (put_mid from k order next) from count = run_laid order next from k count e fits (long ∙ mid) (subst (Numbered next) mid x) in
    subst (Runs starts counts (put_mid from k order next)) (sym one)
    (runs_more starts counts order (put_mid from k order next) i n lt a (subst (Run order (put_mid from k order next) (get_or starts i 0)) is (subst (λ f. Run order (put_mid from k order next) f count) at run)) runs)
