-- A run behind a run: together they are one run of all lines. Assumes nothing.
use Rattle.std.proofs.Common.{◌≡◌, ℕ, zero, suc, ◌+◌, ◌-◌, ◌≤◌, List, ◌++◌, length, get_or, None, Err, Option, sym, refl, ap, ◌∙◌, subst, ⊎_elim, arith, length-append}
use Rattle.std.proofs.Math.Path.{subst₃}
use Rattle.std.proofs.lemmas.Bool.{cases_lt}
use Rattle.std.proofs.Math.Seq.{get_or-append_right}
use Rattle.std.proofs.lemmas.List.{get_or_append_left}
use Rattle.subject.specs.declared.call.Call.{Call}
use Rattle.subject.specs.declared.denial.Denial.TheVariants.{NotPossible}
use Rattle.subject.specs.Wording.{Reply}
use Rattle.subject.specs.Problem.{Problem}
use Rattle.subject.specs.Logs.{Log}
use Rattle.binder.specs.declared.binders.Binder.{Ghosts}
use Rattle.binder.specs.Meaning.{Binding}
use Rattle.session.specs.Runs.{entered, logged, Fitting}
use Rattle.session.specs.Law.{Led, box_of, Law, Ran}
use Rattle.session.specs.declared.state.Session.{Session}

module _ (n : ℕ) (first second : List (Option Call)) (rs ss : List Reply) (L : Log) where
  -- the first lines come to the same log, whatever follows them
  pub logged_front : (k : ℕ) → k ≤ length first → k ≤ length rs → logged n (first ++ second) (rs ++ ss) k L ≡ logged n first rs k L
  logged_front zero h h' = refl
  logged_front (suc k) h h' =
      let line = get_or_append_left first second None k (omega arith) in
      let reply = get_or_append_left rs ss (Err NotPossible) k (omega arith) in
      let rest = logged_front k (omega arith) (omega arith) in
      λ j. entered n (line j) (reply j) (rest j)

  -- and the lines behind them go on from that log
  pub logged_behind : length rs ≡ length first → (k m : ℕ) → m ≡ k + length rs → logged n (first ++ second) (rs ++ ss) m L ≡ logged n second ss k (logged n first rs (length rs) L)
  logged_behind e zero m is = ap (λ i. logged n (first ++ second) (rs ++ ss) i L) (omega (arith, is)) ∙ logged_front (length rs) (omega (arith, e)) (omega arith)
  logged_behind e (suc k) zero is = absurd (omega (arith, is))
  logged_behind e (suc k) (suc m) is =
      let at : m - length first ≡ k = omega (arith, e, is) in
      let at' : m - length rs ≡ k = omega (arith, is) in
      let line = get_or-append_right first second m None (omega (arith, e, is)) ∙ ap (λ i. get_or second i None) at in
      let reply = get_or-append_right rs ss m (Err NotPossible) (omega (arith, is)) ∙ ap (λ i. get_or ss i (Err NotPossible)) at' in
      let rest = logged_behind e k m (omega (arith, is)) in
      λ j. entered n (line j) (reply j) (rest j)

-- a run from where another has led
pub ran_on : {B : Type 0} {bound : Ghosts B} (meaning : B → Binding) (P : Problem) (L : Log) (n : ℕ) (first second : List (Option Call)) (rs ss : List Reply) (t u : Session B bound)
    → length rs ≡ length first → Ran meaning P L first rs (length rs) n t → Ran meaning P (logged n first rs (length rs) L) second ss (length ss) n u
    → Ran meaning P L (first ++ second) (rs ++ ss) (length (rs ++ ss)) n u
ran_on meaning P L n first second rs ss t u e was more =
    let M : Log = logged n first rs (length rs) L in
    let long : length (rs ++ ss) ≡ length ss + length rs = omega (arith, length-append rs ss) in
    let all : logged n (first ++ second) (rs ++ ss) (length (rs ++ ss)) L ≡ logged n second ss (length ss) M =
    logged_behind n first second rs ss L e (length ss) (length (rs ++ ss)) long in
    record {
      led = subst (λ K. Led meaning P K u) (sym all) more.led;
      law = subst (λ K. Law P K (box_of u)) (sym all) more.law;
      fitting = λ i lt.
          ⊎_elim
          (λ front.
          let line = get_or_append_left first second None i (omega (arith, e)) in
          let reply = get_or_append_left rs ss (Err NotPossible) i front in
          let log = logged_front n first second rs ss L i (omega (arith, e)) (omega arith) in
          subst₃ Fitting (sym line) (sym reply) (sym log) (was.fitting i front))
          (λ behind.
          let at : i - length first ≡ i - length rs = omega (arith, e) in
          let line = get_or-append_right first second i None (omega (arith, e)) ∙ ap (λ k. get_or second k None) at in
          let reply = get_or-append_right rs ss i (Err NotPossible) behind in
          let place : i ≡ (i - length rs) + length rs = omega arith in
          let log = logged_behind n first second rs ss L e (i - length rs) i place in
          subst₃ Fitting (sym line) (sym reply) (sym log) (more.fitting (i - length rs) (omega (arith, long))))
          (cases_lt i (length rs));
    }
