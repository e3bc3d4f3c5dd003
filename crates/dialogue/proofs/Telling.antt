-- What the program has written in the end. Assumes nothing.
use Rattle.std.proofs.Common.{◌≡◌, ℕ, ◌<◌, ◌≤◌, List, [], ◌∷◌, ◌++◌, length, take, None, Some, Option, Result, Ok, Err, IfOk, IfErr, OnOk, sym, refl, ap, ◌∙◌, subst, ⊎_elim, arith, length-take, append-nil}
use Rattle.std.proofs.lemmas.Bool.{cases_lt}
use Rattle.std.proofs.lemmas.List.{take_at, take_all}
use Rattle.std.specs.Io.KnownBytes.{Consumes, Appends, IsAtEnd, Keeps}
use Rattle.std.proofs.KnownBytes.{Appends-trans, Appends-kept}
use Rattle.catalogue.specs.declared.counts.Counts.{Counts}
use Rattle.catalogue.specs.declared.fault.Fault.{Fault}
use Rattle.catalogue.specs.Verdict.{verdict}
use Rattle.catalogue.specs.Wording.{counts_line, fault_line}
use Rattle.binder.specs.declared.binders.Binder.{Ghosts}
use Rattle.binder.specs.Meaning.{Binding}
use Rattle.plain.specs.Plain.{problem_in}
use Rattle.session.specs.Law.{Led, box_of}
use Rattle.session.specs.declared.state.Session.{Session}
use Rattle.dialogue.specs.Talk.{Served}
use Rattle.dialogue.specs.Program.{FirstBytes, Talked, TextOf, LeftOf, Told}

-- what was taken of an input is its first bytes
first_taken : (had left : Option (List ℕ)) (input : List ℕ) → Consumes had left input → length input ≤ 65536 → (length input < 65536 → IsAtEnd left) → FirstBytes had input
first_taken None left input took within whole = (within, tt)
first_taken (Some xs) None input took within whole = absurd took
first_taken (Some xs) (Some ys) input took within whole = (
  within,
  ⊎_elim
      (λ short.
      let all : xs ≡ input = took ∙ ap (λ l. input ++ l) (whole short) ∙ append-nil input in
      sym (take_all 65536 input within) ∙ ap (take 65536) (sym all))
      (λ long. sym (ap (take 65536) took ∙ take_at input ys 65536 (omega (arith, long, within))))
      (cases_lt (length input) 65536),
)

-- the first bytes of an input of which nothing is read
abbrev front : Option (List ℕ) → List ℕ
front None = []
front (Some xs) = take 65536 xs

first_front : (had : Option (List ℕ)) → FirstBytes had (front had)
first_front None = (omega arith, tt)
first_front (Some xs) = (omega (arith, length-take 65536 xs), refl)

-- a file with a fault
pub told_fault : (file : List ℕ) (fault : Fault) (had left was mid is : Option (List ℕ)) → verdict file ≡ Err fault → Keeps had left → Appends was mid (fault_line fault ++ 10 ∷ []) → Keeps mid is
    → Told file had left was is
told_fault file fault had left was mid is faulty unread wrote kept = record {
  input = front had;
  first = first_front had;
  text = fault_line fault ++ 10 ∷ [];
  written = Appends-kept was mid is (fault_line fault ++ 10 ∷ []) wrote kept;
  says = subst (λ r. TextOf r file (front had) (fault_line fault ++ 10 ∷ [])) (sym faulty) refl;
  leaves = subst (λ r. LeftOf r (front had) had left) (sym faulty) unread;
}

-- an accepted file, and the input that was answered
pub told_accepted : {B : Type 0} {bound : Ghosts B} (meaning : B → Binding) (file : List ℕ) (counts : Counts) (had left was mid kept is : Option (List ℕ)) (s t : Session B bound) → verdict file ≡ Ok counts
    → Led meaning (problem_in file) [] s → Appends was mid (counts_line counts ++ 10 ∷ []) → Keeps mid kept → Served meaning had left kept is s t → Told file had left was is
told_accepted meaning file counts had left was mid kept is s t accepted led wrote same served =
    let line = counts_line counts ++ 10 ∷ [] in
    let a = served.answered in
    let run = a.ran (problem_in file) [] led in
    let talked : Talked file counts served.input (line ++ served.words) =
    record { replies = a.replies; worded = ap (λ l. line ++ l) a.worded; each = a.each; box = box_of t; law = run.law; fitting = run.fitting } in
    record {
      input = served.input;
      first = first_taken had left served.input served.taken served.within served.whole;
      text = line ++ served.words;
      written = Appends-trans was kept is line served.words (Appends-kept was mid kept line wrote same) served.written;
      says = subst (λ r. TextOf r file served.input (line ++ served.words)) (sym accepted) talked;
      leaves = subst (λ r. LeftOf r served.input had left) (sym accepted) (served.taken, served.whole);
    }

-- a fact of each case
pub if_ok_each : {T E : Type 0} (r : Result T E) (P : T → Type 0) → ((x : T) → P x) → IfOk r P
if_ok_each (Ok x) P h = h x
if_ok_each (Err e) P h = tt

pub if_err_each : {T E : Type 0} (r : Result T E) (P : E → Type 0) → ((e : E) → P e) → IfErr r P
if_err_each (Ok x) P h = tt
if_err_each (Err e) P h = h e

pub no_ok : {T E : Type 0} (r : Result T E) (e : E) (P : Type 0) → r ≡ Err e → OnOk r P
no_ok (Ok x) e P is = absurd (grind arith)
no_ok (Err d) e P is = tt

pub ok_not_err : {T E : Type 0} (x : T) (e : E) → Ok x ≡ Err e → ⊥
ok_not_err x e is = grind arith

pub err_same : {T E : Type 0} (r : Result T E) (d e : E) → r ≡ Err d → r ≡ Err e → d ≡ e
err_same r d e p q = grind (arith, p, q)
