-- What a run over the records of a file gives: the end that was accepted, or the first check that failed. Assumes nothing.
use Rattle.std.proofs.Common.{◌≡◌, ℕ, zero, suc, ◌+◌, ◌-◌, ◌<◌, ◌≤◌, Bool, true, false, cond, ◌||◌, eqb, ◌⊎◌, List, [], ◌∷◌, length, take, drop, Ok, Err, Result, sym, refl, ap, ◌∙◌, subst, inl, inr, ⊎_elim, arith}
use Rattle.std.proofs.lemmas.Bool.{leb-true, leb-false, or_left, or_right, eq-eqb, both_ways, not-false}
use Rattle.catalogue.specs.declared.fault.Fault.{Fault}
use Rattle.catalogue.specs.declared.make.Make.TheVariants.{Fit, Bar, Load}
use Rattle.catalogue.specs.Content.{Content}
use Rattle.catalogue.specs.Records.{Rec, slot, header, row, weight, end, Check, ◌when◌, fault_at, judged, between, body_len, named, kind_at, record_at, size_of}
use Rattle.catalogue.specs.Checks.{Said, nothing, content_of, checks, after}
use Rattle.catalogue.specs.Verdict.{behind, follow, content_from, content}
use Rattle.catalogue.specs.Law.{checks_at, Passes, none, next, First, here, later, Inner, Passed, start, step, FirstFault}

-- the end of a run that was accepted
pub record Ended (bs : List ℕ) (w : Content) : Type 0 where
  pub from : ℕ
  pub said : Said
  pub before : Passed bs from said
  pub passes : Passes (checks_at bs from said)
  pub ends : record_at bs from ≡ end
  pub says : content_of said ≡ w

-- what each outcome of a run tells
abbrev Tells : List ℕ → Result Content Fault → Type 0
Tells bs (Ok w) = Ended bs w
Tells bs (Err f) = FirstFault bs f

-- Either no check fails and the rest decides, or the first that fails does.
pub judged_cases : {X : Type 0} (at : ℕ) (cs : List Check) (r q : Result X Fault) → judged at cs r ≡ q → (Passes cs × (r ≡ q)) ⊎ ((n : ℕ) × First n cs × (Err (fault_at n at) ≡ q))
judged_cases at [] r q e = inl (none, e)
judged_cases at ((n when true) ∷ cs) r q e = inr (n, here, e)
judged_cases at ((n when false) ∷ cs) r q e =
    ⊎_elim (λ h. inl (next h.0, h.1)) (λ h. inr (h.0, later h.1, h.2)) (judged_cases at cs r q e)

-- a check of this number is among them
abbrev numbered : ℕ → List Check → Bool
numbered n [] = false
numbered n ((m when b) ∷ cs) = eqb n m || numbered n cs

first_numbered : {n : ℕ} {cs : List Check} → First n cs → numbered n cs ≡ true
first_numbered {n} (here {cs}) = or_left (eqb n n) (numbered n cs) (eq-eqb n n refl)
first_numbered {n} (later {m} {cs} f) = or_right (eqb n m) (numbered n cs) (first_numbered f)

-- no check of a record that was read has the number 1
not_one : (room : ℕ) (s : Said) (x : Rec) → numbered 1 (checks room s x) ≡ false
not_one room s (slot b) = refl
not_one room s (header m b) = refl
not_one room s (row b) = refl
not_one room s (weight b) = refl
not_one room s end = refl

-- Check 1 is the first that fails only where no byte is left.
first_one : {b : Bool} {cs : List Check} → numbered 1 cs ≡ false → First 1 ((1 when b) ∷ cs) → b ≡ true
first_one none_left here = refl
first_one none_left (later f) = absurd (both_ways _ none_left (first_numbered f))

none_left : (bs : List ℕ) (at : ℕ) (s : Said) → First 1 (checks_at bs at s) → length bs ≤ at
none_left bs at s f = leb-true (length bs) at (first_one (not_one (behind bs at) s (record_at bs at)) f)

-- how many bytes a record has, by its kind
sized : (a b c d e f : Bool) (x : List ℕ) → size_of (cond a (slot x) (cond b (header Fit x) (cond c (header Bar x) (cond d (header Load x) (cond e (row x) (cond f (weight x) end)))))) ≡ cond a 1 (cond b 9 (cond c 9 (cond d 13 (cond e 8 (cond f 4 0))))) + 1
sized true b c d e f x = refl
sized false true c d e f x = refl
sized false false true d e f x = refl
sized false false false true e f x = refl
sized false false false false true f x = refl
sized false false false false false true x = refl
sized false false false false false false x = refl

pub size_named : (k : ℕ) (b : List ℕ) → size_of (named k b) ≡ body_len k + 1
size_named k b = sized (eqb k 1) (eqb k 2) (eqb k 3) (eqb k 4) (eqb k 5) (eqb k 6) b

-- what the checks of reading tell
pub record Read (bs : List ℕ) (at : ℕ) : Type 0 where
  pub kind : between 1 7 (kind_at bs at) ≡ true
  pub some : 0 < size_of (record_at bs at)
  pub whole : at + size_of (record_at bs at) ≤ length bs

pub first_passed : {n : ℕ} {b : Bool} {cs : List Check} → Passes ((n when b) ∷ cs) → b ≡ false
first_passed (next p) = refl

pub rest_passed : {n : ℕ} {b : Bool} {cs : List Check} → Passes ((n when b) ∷ cs) → Passes cs
rest_passed (next p) = p

pub read : (bs : List ℕ) (at : ℕ) (s : Said) → Passes (checks_at bs at s) → Read bs at
read bs at s p =
    let k = kind_at bs at in
    let q = rest_passed (rest_passed p) in
    let more = leb-false (length bs - at) (body_len k) (first_passed q) in
    let size = size_named k (take (body_len k) (drop (at + 1) bs)) in
    record { kind = not-false _ (first_passed (rest_passed p)); some = omega arith; whole = omega arith }

-- A run that goes on from a place within the file, with turns for all that is left, tells what it comes to.
module _ (bs : List ℕ) where
  abbrev Runs : ℕ → Type 0
  Runs n = (at : ℕ) (s : Said) → Passed bs at s → at ≤ length bs → length bs < at + n → (q : Result Content Fault) → content_from n bs at s ≡ q → Tells bs q

  module _ (n : ℕ) (rest : Runs n) (at : ℕ) (s : Said) (before : Passed bs at s) (within : at ≤ length bs) (enough : length bs < at + suc n) (q : Result Content Fault) where
    failed : (m : ℕ) → First m (checks_at bs at s) → Err (fault_at m at) ≡ q → Tells bs q
    failed m f e = subst (Tells bs) e (record {
      from = at;
      said = s;
      before = before;
      first = f;
      is = refl;
      at_end = λ one. let left = none_left bs at s (subst (λ i. First i (checks_at bs at s)) one f) in ap (λ i. cond (eqb i 14) (at + 1) at) one ∙ omega arith;
    })

    module _ (passes : Passes (checks_at bs at s)) where
      inner : (x : Rec) → record_at bs at ≡ x → Inner x → content_from n bs (at + size_of x) (after s x) ≡ q → Tells bs q
      inner x e i h =
          let whole = subst (λ y. at + size_of y ≤ length bs) e (read bs at s passes).whole in
          let some = subst (λ y. 0 < size_of y) e (read bs at s passes).some in
          rest (at + size_of x) (after s x) (subst (λ y. Passed bs (at + size_of y) (after s y)) e (step before passes (subst Inner (sym e) i))) whole (omega arith) q h

      passed : (x : Rec) → record_at bs at ≡ x → follow (content_from n bs) at s x ≡ q → Tells bs q
      passed (slot b) e h = inner (slot b) e tt h
      passed (header m b) e h = inner (header m b) e tt h
      passed (row b) e h = inner (row b) e tt h
      passed (weight b) e h = inner (weight b) e tt h
      passed end e h = subst (Tells bs) h (record { from = at; said = s; before = before; passes = passes; ends = e; says = refl })

  runs : (n : ℕ) → Runs n
  runs zero at s before within enough q e = absurd (omega arith)
  runs (suc n) at s before within enough q e =
      ⊎_elim
      (λ h. passed n (runs n) at s before within enough q h.0 (record_at bs at) refl h.1)
      (λ h. failed n (runs n) at s before within enough q h.0 h.1 h.2)
      (judged_cases at (checks_at bs at s) (follow (content_from n bs) at s (record_at bs at)) q e)

  outcome : (q : Result Content Fault) → content bs ≡ q → Tells bs q
  outcome q e = runs (suc (length bs)) 0 nothing start (omega arith) (omega arith) q e

-- An accepted run ends at an end record that passes all its checks.
pub ended : (bs : List ℕ) (w : Content) → content bs ≡ Ok w → Ended bs w
ended bs w e = outcome bs (Ok w) e

-- A refused run names the first check that fails.
pub first_fault : (bs : List ℕ) (f : Fault) → content bs ≡ Err f → FirstFault bs f
first_fault bs f e = outcome bs (Err f) e
