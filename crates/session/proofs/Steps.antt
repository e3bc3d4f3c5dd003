-- One line after another. Assumes nothing.
use Rattle.std.proofs.Common.{◌≡◌, ℕ, zero, suc, ◌+◌, ◌<◌, ◌≤◌, ◌≢◌, List, length, get_or, set, None, Err, Option, sym, refl, ◌∙◌, subst, subst₂, ⊎_elim, add-one, arith, length-set, get_or-set_other, get_or-set_same}
use Rattle.std.proofs.lemmas.Bool.{cases_eq}
use Rattle.subject.specs.declared.call.Call.{Call}
use Rattle.subject.specs.declared.denial.Denial.TheVariants.{NotPossible}
use Rattle.subject.specs.Wording.{Reply}
use Rattle.subject.specs.Problem.{Problem}
use Rattle.subject.specs.Logs.{Log}
use Rattle.binder.specs.declared.binders.Binder.{Ghosts}
use Rattle.binder.specs.Meaning.{Binding}
use Rattle.session.specs.Runs.{entered, logged, Fitting, overlaid, remembered}
use Rattle.session.specs.Law.{Led}
use Rattle.session.specs.Running.{Replied, Running}
use Rattle.session.specs.declared.state.Session.{Session}

-- what replies from k on are does not matter to the first k lines
logged_same : (n k : ℕ) (lines : List (Option Call)) (rs rs' : List Reply) (L : Log) → ((i : ℕ) → i < k → get_or rs' i (Err NotPossible) ≡ get_or rs i (Err NotPossible)) → logged n lines rs' k L ≡ logged n lines rs k L
logged_same n zero lines rs rs' L e = refl
logged_same n (suc k) lines rs rs' L e =
    let here = e k (omega arith) in
    let rest = logged_same n k lines rs rs' L (λ i h. e i (omega arith)) in
    λ j. entered n (get_or lines k None) (here j) (rest j)

remembered_same : (k : ℕ) (rs rs' : List Reply) (m : List ℕ) → ((i : ℕ) → i < k → get_or rs' i (Err NotPossible) ≡ get_or rs i (Err NotPossible)) → remembered rs' k m ≡ remembered rs k m
remembered_same zero rs rs' m e = refl
remembered_same (suc k) rs rs' m e =
    let here = e k (omega arith) in
    let rest = remembered_same k rs rs' m (λ i h. e i (omega arith)) in
    λ j. overlaid (here j) (rest j)

module _ {B : Type 0} {bound : Ghosts B} (meaning : B → Binding) (lines : List (Option Call)) where
  pub running_none : (rs : List Reply) (s : Session B bound) (m : List ℕ) → Running meaning lines 0 rs rs s s m m
  running_none rs s m = record {
    long = (refl, refl);
    past = λ i k. refl;
    memory = refl;
    led = λ P L k. k;
    fitting = λ P L k i l. absurd (omega arith);
  }

  -- one line more
  module _ (at : ℕ) (before rs : List Reply) (s t u : Session B bound) (m0 m m' : List ℕ) (r : Reply) (was : Running meaning lines at before rs s t m0 m) (room : at < length rs)
      (more : Replied meaning (get_or lines at None) r t u m m') (long : length m' ≡ length m) where
    here : get_or (set rs at r) at (Err NotPossible) ≡ r
    here = get_or-set_same rs at r (Err NotPossible) room

    other : (i : ℕ) → i ≢ at → get_or (set rs at r) i (Err NotPossible) ≡ get_or rs i (Err NotPossible)
    other i ne = get_or-set_other rs at i r (Err NotPossible) ne

    front : (n : ℕ) (L : Log) (k : ℕ) → k ≤ at → logged n lines (set rs at r) k L ≡ logged n lines rs k L
    front n L k h = logged_same n k lines rs (set rs at r) L (λ i l. other i (omega arith))

    entered_on : (P : Problem) (L : Log) → Led meaning P L t → Led meaning P (entered (length m0) (get_or lines at None) r L) u
    entered_on P L h = subst (λ n. Led meaning P (entered n (get_or lines at None) r L) u) was.long.1 (more.enters P L h)

    fit_at : (P : Problem) (L : Log) → Led meaning P L s
        → (i : ℕ) → i < at + 1 → Fitting (get_or lines i None) (get_or (set rs at r) i (Err NotPossible)) (logged (length m0) lines (set rs at r) i L)
    fit_at P L h i k =
        ⊎_elim
        (λ e. subst (λ j. Fitting (get_or lines j None) (get_or (set rs at r) j (Err NotPossible)) (logged (length m0) lines (set rs at r) j L)) (sym e)
        (subst₂ (λ x M. Fitting (get_or lines at None) x M) (sym here) (sym (front (length m0) L at (omega arith))) (more.fits P _ (was.led P L h))))
        (λ ne. subst₂ (λ x M. Fitting (get_or lines i None) x M) (sym (other i ne)) (sym (front (length m0) L i (omega arith))) (was.fitting P L h i (omega arith)))
        (cases_eq i at)

    pub running_more : Running meaning lines (at + 1) before (set rs at r) s u m0 m'
    running_more = record {
      long = (length-set rs at r ∙ was.long.0, long ∙ was.long.1);
      past = λ i h. other i (omega arith) ∙ was.past i (omega arith);
      memory = rw (add-one at)
          (more.memory ∙ (λ j. overlaid (sym here j) ((was.memory ∙ sym (remembered_same at rs (set rs at r) m0 (λ i l. other i (omega arith)))) j)));
      led = λ P L h. rw (add-one at)
          (subst₂ (λ x M. Led meaning P (entered (length m0) (get_or lines at None) x M) u) (sym here) (sym (front (length m0) L at (omega arith))) (entered_on P _ (was.led P L h)));
      fitting = fit_at;
    }
