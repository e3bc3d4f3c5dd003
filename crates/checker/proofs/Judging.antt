-- What is left of a file, judged from what was said so far, gives its verdict. Assumes nothing.
use Rattle.std.proofs.Common.{◌≡◌, ℕ, suc, ◌+◌, ◌-◌, ◌<◌, ◌≤◌, true, false, List, [], ◌∷◌, length, Ok, Err, Result, sym, refl, ap, ◌∙◌, subst, arith}
use Rattle.catalogue.specs.declared.counts.Counts.{Counts}
use Rattle.catalogue.specs.declared.fault.Fault.{Fault}
use Rattle.checker.specs.declared.progress.Progress.{Progress}
use Rattle.catalogue.specs.Content.{Content}
use Rattle.catalogue.specs.Records.{Rec, slot, header, row, weight, end, Check, ◌when◌, judged, reading, record_at, read_at, size_of}
use Rattle.catalogue.specs.Checks.{Said, nothing, content_of, checks, after}
use Rattle.catalogue.specs.Verdict.{onward, follow, behind, content_from, content, counts_of, verdict}
use Rattle.catalogue.specs.Law.{Inner}
use Rattle.checker.specs.Steps.{Shows, Steps}

err_is_no_ok : {X Y : Type 0} {f : Fault} {x : X} → ◌≡◌ {A = Result X Fault} (Err f) (Ok x) → Y
err_is_no_ok e = let z : ◌≡◌ {A = ℕ} 0 1 = cc in absurd (omega arith)

-- checks that pass for one answer pass for any, and give it
module _ {X Y : Type 0} (at : ℕ) (x : X) where
  pub judged_ok : (cs : List Check) (z : X) (y : Result Y Fault) → judged at cs (Ok x) ≡ Ok z → (judged at cs y ≡ y) × (x ≡ z)
  judged_ok [] z y e = (refl, cc)
  judged_ok ((n when true) ∷ cs) z y e = err_is_no_ok e
  judged_ok ((n when false) ∷ cs) z y e = judged_ok cs z y e

  -- and a check that fails for one fails for any
  pub judged_err : (cs : List Check) (f : Fault) (y : Result Y Fault) → judged at cs (Ok x) ≡ Err f → judged at cs y ≡ Err f
  judged_err [] f y e = err_is_no_ok (sym e)
  judged_err ((n when true) ∷ cs) f y e = cc
  judged_err ((n when false) ∷ cs) f y e = judged_err cs f y e

-- what follows an answer follows it under the checks
judged_onward : {X Y : Type 0} (at : ℕ) (x : X) (go : X → Result Y Fault) (cs : List Check) → onward (judged at cs (Ok x)) go ≡ judged at cs (go x)
judged_onward at x go [] = refl
judged_onward at x go ((n when true) ∷ cs) = refl
judged_onward at x go ((n when false) ∷ cs) = judged_onward at x go cs

-- the answer of a step that went well
abbrev pub fine : Result (Unit {0}) Fault
fine = Ok tt

-- what is left of a file from a place on
pub record Left (bs : List ℕ) (at : ℕ) (s : Said) : Type 0 where
  pub turns : ℕ
  pub enough : length bs < at + turns
  pub same : content_from turns bs at s ≡ content bs

-- the records up to a place were passed, and the program's state shows what they said
pub record Reached (bs : List ℕ) (at : ℕ) (p : Progress) : Type 0 where
  pub said : Said
  pub shows : Shows bs at p said
  pub left : Left bs at said

pub reached_none : (bs : List ℕ) (p : Progress) → Shows bs 0 p nothing → Reached bs 0 p
reached_none bs p h =
    record { said = nothing; shows = h; left = record { turns = suc (length bs); enough = omega arith; same = refl } }

module _ (bs : List ℕ) (at : ℕ) (s : Said) (in' : at ≤ length bs) (l : Left bs at s) where
  rest : Result Content Fault
  rest = judged at (checks (behind bs at) s (record_at bs at)) (follow (content_from (l.turns - 1) bs) at s (record_at bs at))

  one : judged at (reading bs at) rest ≡ content bs
  unfolding rest
  one = let e : suc (l.turns - 1) ≡ l.turns = omega (arith, l.enough) in ap (λ n. content_from n bs at s) e ∙ l.same

  counted : (f : Fault) → content bs ≡ Err f → Err f ≡ verdict bs
  counted f e = sym (ap (λ r. onward r (λ w. Ok (counts_of w))) e)

  pub cut_off : (f : Fault) → Err f ≡ read_at bs at → Err f ≡ verdict bs
  cut_off f e = counted f (sym one ∙ judged_err at (record_at bs at) (reading bs at) f rest (sym e))

  -- the record is x
  module _ (x : Rec) (is : Ok x ≡ read_at bs at) where
    read : (judged at (reading bs at) rest ≡ rest) × (record_at bs at ≡ x)
    read = judged_ok at (record_at bs at) (reading bs at) x rest (sym is)

    goes : judged at (checks (behind bs at) s x) (follow (content_from (l.turns - 1) bs) at s x) ≡ content bs
    unfolding rest
    goes = ap (λ r. judged at (checks (behind bs at) s r) (follow (content_from (l.turns - 1) bs) at s r)) (sym read.1) ∙ sym read.0 ∙ one

    pub refused : (f : Fault) → Err f ≡ judged at (checks (behind bs at) s x) fine → Err f ≡ verdict bs
    refused f e = counted f (sym goes ∙ judged_err {X = Unit {0}} at tt (checks (behind bs at) s x) f (follow (content_from (l.turns - 1) bs) at s x) (sym e))

    passed : fine ≡ judged at (checks (behind bs at) s x) fine → follow (content_from (l.turns - 1) bs) at s x ≡ content bs
    passed e = sym (judged_ok {X = Unit {0}} at tt (checks (behind bs at) s x) tt (follow (content_from (l.turns - 1) bs) at s x) (sym e)).0 ∙ goes

  pub at_end : (r : Result Counts Fault) → Ok end ≡ read_at bs at → r ≡ judged at (checks (behind bs at) s end) (Ok (counts_of (content_of s))) → r ≡ verdict bs
  at_end r is e =
      e ∙ sym (judged_onward at (content_of s) (λ w. Ok (counts_of w)) (checks (behind bs at) s end)) ∙ ap (λ q. onward q (λ w. Ok (counts_of w))) (goes end is)

  inner : (x : Rec) → Inner x → (t : ℕ → Said → Result Content Fault) → follow t at s x ≡ t (at + size_of x) (after s x)
  inner (slot b) i t = refl
  inner (header m b) i t = refl
  inner (row b) i t = refl
  inner (weight b) i t = refl
  inner end i t = absurd i

  pub goes_on : (x : Rec) → Inner x → Ok x ≡ read_at bs at → fine ≡ judged at (checks (behind bs at) s x) fine → 0 < size_of x → Left bs (at + size_of x) (after s x)
  goes_on x i is e some =
      record { turns = l.turns - 1; enough = omega (arith, l.enough); same = sym (inner x i (content_from (l.turns - 1) bs)) ∙ passed x is e }

-- One turn of the check, by the record x at the place.
module _ (bs : List ℕ) (at : ℕ) (p : Progress) (in' : at ≤ length bs) (h : Reached bs at p) where
  pub cut_off_there : (f : Fault) → Err f ≡ read_at bs at → Err f ≡ verdict bs
  cut_off_there f e = cut_off bs at h.said in' h.left f e

  pub ends_there : (r : Result Counts Fault) → Ok end ≡ read_at bs at → ((s : Said) → Shows bs at p s → r ≡ judged at (checks (behind bs at) s end) (Ok (counts_of (content_of s)))) → r ≡ verdict bs
  ends_there r is e = at_end bs at h.said in' h.left r is (e h.said h.shows)

  module _ (x : Rec) (q : Progress) (is : Ok x ≡ read_at bs at) where
    pub refused_there : (f : Fault) → Steps bs at x (Err f) p q → Err f ≡ verdict bs
    refused_there f e = refused bs at h.said in' h.left x is f (e h.said h.shows).is

    goes_there : Inner x → 0 < size_of x → Steps bs at x fine p q → Reached bs (at + size_of x) q
    goes_there i some e =
        let t = e h.said h.shows in
        record { said = after h.said x; shows = t.shows refl; left = goes_on bs at h.said in' h.left x i is t.is some }

    -- the same, where the record's size is known by another term
    pub goes_by : Inner x → 0 < size_of x → Steps bs at x fine p q → (size : ℕ) → size ≡ size_of x → Reached bs (at + size) q
    goes_by i some e size same = subst (λ n. Reached bs (at + n) q) (sym same) (goes_there i some e)
