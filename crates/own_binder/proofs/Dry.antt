-- Where no box is supported, a look sees nothing and a try finds its option shut. Assumes nothing.
use Rattle.std.proofs.Common.{◌≡◌, ℕ, zero, suc, ◌<◌, ◌≤◌, true, List, [], ◌∷◌, length, get_or, Ok, Err, Result, sym, refl, ap, subst, ⊎_elim, arith}
use Rattle.std.specs.List.{AllByRecursion}
use Rattle.std.proofs.lemmas.Bool.{cases_eq}
use Rattle.catalogue.specs.declared.counts.Counts.{Counts}
use Rattle.catalogue.specs.Verdict.{accepts}
use Rattle.catalogue.specs.Law.{Octets}
use Rattle.catalogue.proofs.Held.{held}
use Rattle.subject.specs.declared.refusal.Refusal.{Refusal}
use Rattle.subject.specs.Problem.{Problem, Real}
use Rattle.subject.specs.Decisions.{Decision, Open}
use Rattle.subject.specs.Plans.{Plan}
use Rattle.subject.specs.Logs.{Reckoned, Refuses, look, try, bits, refused, refuses, look_no_slot, look_done, try_shut, try_done}
use Rattle.subject.proofs.Bits.{some_bit}
use Rattle.subject.proofs.Standing.{one_refusal}
use Rattle.planner.specs.Answers.{counts, shows}
use Rattle.planner.specs.Opening.{slots_said, slots_in, posed}
use Rattle.own_binder.specs.OneSheet.{one_sheet}

-- ---- every slot of a checked catalogue has an option

all_some : (xs : List ℕ) (s : ℕ) → s < length xs → AllByRecursion (λ n. (1 ≤ n) × (n ≤ 32)) xs → 0 < get_or xs s 0
all_some [] s h a = absurd (omega arith)
all_some (x ∷ xs) zero h a = a.0.0
all_some (x ∷ xs) (suc s) h a = all_some xs s (omega arith) a.1

pub slots_have : (bytes : List ℕ) (c : Counts) → accepts bytes c ≡ true → Octets bytes → (s : ℕ) → s < length (slots_in bytes) → 0 < get_or (slots_in bytes) s 0
unfolding slots_in
slots_have bytes c a o s lt =
    let h = held bytes c a o in
    subst (λ x. 0 < get_or (slots_said x) s 0) (sym h.is) (all_some h.list.options s (subst (λ x. s < length (slots_said x)) h.is lt) h.sound.sizes)

-- ---- answers where nothing is open

module _ (P : Problem) (D : List Decision) (G : List Plan) (shut : (s o : ℕ) → Open P D s o → ⊥) where
  look_only : (s n : ℕ) → Refuses P D (look s) n → length P.sizes ≤ s
  look_only s n (look_no_slot k) = k

  pub look_dry : (s : ℕ) (r : Result ℕ Refusal) → s < length P.sizes → Reckoned P D G (look s) (shows r) → shows r ≡ bits 0
  look_dry s (Ok m) h (look_done k small sees) = ap bits (⊎_elim (λ e. e) (λ ne. let b = some_bit m m (omega arith) ne in absurd (shut s b.0 ((sees b.0).0 b.1))) (cases_eq m 0))
  look_dry s (Err e) h (refuses x) = let k = look_only s _ x in absurd (omega arith)

  pub try_dry : (s o : ℕ) (r : Result ℕ Refusal) → Real P s o → Reckoned P D G (try s o) (counts r) → counts r ≡ refused 23
  try_dry s o (Ok n) real (try_done w few c) = absurd (shut s o w)
  try_dry s o (Err e) real (refuses x) = ap refused (one_refusal P D (try s o) _ 23 x (try_shut real (shut s o)))

-- ---- the sheet names a slot that is not there

pub beyond : (sizes : List ℕ) (slot marks : ℕ) → length sizes ≤ slot → (D : List Decision) (s o : ℕ) → Open (posed sizes (one_sheet slot marks)) D s o → ⊥
beyond sizes slot marks h D s o w = let lt : slot < length sizes = w.1.placed 0 0 slot (omega arith, omega arith, refl) in omega arith
