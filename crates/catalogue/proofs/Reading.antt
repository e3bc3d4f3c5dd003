-- How the bytes of a record, and of one record after another, are read at the end of any file. Assumes nothing.
use Rattle.std.proofs.Common.{◌≡◌, ℕ, zero, suc, ◌+◌, ◌<◌, ◌≤◌, Bool, false, List, [], ◌∷◌, ◌++◌, length, get_or, take, drop, Ok, Result, sym, refl, ap, ◌∙◌, subst, append_assoc, append-nil, add-zero, arith}
use Rattle.std.specs.List.{flat_map}
use Rattle.std.proofs.lemmas.List.{get_or-drop, drop-drop, take_at, drop_at, length-drop, length-append}
use Rattle.std.proofs.lemmas.Bool.{lt-leb, le-leb, and_from, not_from_true}
use Rattle.catalogue.specs.declared.fault.Fault.{Fault}
use Rattle.catalogue.specs.Content.{Content}
use Rattle.catalogue.specs.Records.{Rec, slot, header, row, weight, end, Check, ◌when◌, judged, body_len, named, kind_at, record_at, reading, size_of}
use Rattle.catalogue.specs.Checks.{Said, content_of, checks, after}
use Rattle.catalogue.specs.Verdict.{follow, behind, content_from}
use Rattle.catalogue.specs.Law.{Passes, none, next, Inner}

-- a check whose test is false passes
pub passes : {t : Bool} {cs : List Check} (n : ℕ) → t ≡ false → Passes cs → Passes ((n when t) ∷ cs)
passes {t} {cs} n e p = subst (λ b. Passes ((n when b) ∷ cs)) (sym e) (next p)

-- what comes is not refused where all checks pass
pub judged_passes : {X : Type 0} {cs : List Check} (at : ℕ) (r : Result X Fault) → Passes cs → judged at cs r ≡ r
judged_passes at r none = refl
judged_passes at r (next p) = judged_passes at r p

-- A byte and a body are a record of that kind, and have its size.
pub record Framed (k : ℕ) (b : List ℕ) (x : Rec) : Type 0 where
  pub low : 1 ≤ k
  pub high : k ≤ 7
  pub long : length b ≡ body_len k
  pub is : named k b ≡ x
  pub size : size_of x ≡ suc (length b)

-- where the bytes of a record stand in a file, with so many more behind them
module _ (bs : List ℕ) (at k : ℕ) (b rest : List ℕ) (x : Rec) (here : drop at bs ≡ k ∷ b ++ rest) (f : Framed k b x) where
  kind_here : kind_at bs at ≡ k
  kind_here = ap (λ i. get_or bs i 0) (sym (add-zero at)) ∙ sym (get_or-drop at bs 0 0) ∙ ap (λ l. get_or l 0 0) here

  tail_here : drop (at + 1) bs ≡ b ++ rest
  tail_here = sym (drop-drop 1 at bs) ∙ ap (drop 1) here

  length_here : length bs ≡ at + suc (length b + length rest)
  length_here = let e = ap length here in omega (arith, e, length-drop at bs, length-append b rest)

  rest_here : drop (at + size_of x) bs ≡ rest
  rest_here =
      ap (λ i. drop (at + i) bs) f.size ∙ sym (drop-drop (suc (length b)) at bs) ∙ ap (drop (suc (length b))) here ∙ drop_at b rest (length b) refl

  record_here : record_at bs at ≡ x
  record_here =
      ap (λ j. named j (take (body_len j) (drop (at + 1) bs))) kind_here ∙ ap (λ l. named k (take (body_len k) l)) tail_here ∙ ap (named k) (take_at b rest (body_len k) f.long) ∙ f.is

  behind_here : behind bs at ≡ length b + length rest
  behind_here = omega (arith, length_here)

  reading_here : Passes (reading bs at)
  reading_here =
      let kind = kind_here in
      let long = length_here in
      let body = ap body_len kind ∙ sym f.long in
      passes 1 (lt-leb (length bs) at (omega arith))
      (passes 2 (not_from_true _ (and_from _ _ (le-leb 1 (kind_at bs at) (omega (arith, f.low))) (le-leb (kind_at bs at) 7 (omega (arith, f.high)))))
      (passes 3 (lt-leb _ _ (omega arith)) none))

  -- the record is read, and its own checks decide
  read_here : (n : ℕ) (s : Said) → content_from (suc n) bs at s ≡ judged at (checks (length b + length rest) s x) (follow (content_from n bs) at s x)
  read_here n s =
      judged_passes at _ reading_here ∙ ap (λ y. judged at (checks (behind bs at) s y) (follow (content_from n bs) at s y)) record_here ∙ ap (λ m. judged at (checks m s x) (follow (content_from n bs) at s x)) behind_here

-- Bytes that end a file, read on after what the records before them said, give this answer: in any file.
pub record ReadsTo (rest : List ℕ) (s : Said) (r : Result Content Fault) : Type 0 where
  pub says : (bs : List ℕ) (at n : ℕ) → drop at bs ≡ rest → length rest < n → content_from n bs at s ≡ r

-- a record that is not the end is followed by the next
follow_inner : (go : ℕ → Said → Result Content Fault) (at : ℕ) (s : Said) (x : Rec) → Inner x → follow go at s x ≡ go (at + size_of x) (after s x)
follow_inner go at s (slot b) i = refl
follow_inner go at s (header m b) i = refl
follow_inner go at s (row b) i = refl
follow_inner go at s (weight b) i = refl
follow_inner go at s end i = absurd i

-- one record more in front, if it passes its checks
pub gives_more : {k : ℕ} {b : List ℕ} {x : Rec} {r : Result Content Fault} (s : Said) (rest : List ℕ) → Framed k b x → Inner x → Passes (checks (length b + length rest) s x) → ReadsTo rest (after s x) r → ReadsTo (k ∷ b ++ rest) s r
gives_more {k} {b} {x} {r} s rest f i p g = record { says = go }
  where
    go : (bs : List ℕ) (at n : ℕ) → drop at bs ≡ k ∷ b ++ rest → length (k ∷ b ++ rest) < n → content_from n bs at s ≡ r
    go bs at zero here h = absurd (omega arith)
    go bs at (suc n) here h =
        read_here bs at k b rest x here f n s ∙ judged_passes at _ p ∙ follow_inner (content_from n bs) at s x i ∙ g.says bs (at + size_of x) n (rest_here bs at k b rest x here f) (omega (arith, length-append b rest))

-- the end, if it passes its checks
pub gives_end : (s : Said) → Passes (checks 0 s end) → ReadsTo (7 ∷ []) s (Ok (content_of s))
gives_end s p = record { says = go }
  where
    framed : Framed 7 [] end
    framed = record { low = omega arith; high = omega arith; long = refl; is = refl; size = refl }

    go : (bs : List ℕ) (at n : ℕ) → drop at bs ≡ 7 ∷ [] → length {A = ℕ} (7 ∷ []) < n → content_from n bs at s ≡ Ok (content_of s)
    go bs at zero here h = absurd (omega arith)
    go bs at (suc n) here h = read_here bs at 7 [] [] end here framed n s ∙ judged_passes at _ p

-- What a list is written as goes well from its front, where it goes well by one element after another.
-- G says of the elements read and the bytes left that they go well.
pub one_by_one : {X : Type 0} (f : X → List ℕ) (G : List X → List ℕ → Type 0) (all : List X) → ((done : List X) (x : X) (left : List X) → done ++ x ∷ left ≡ all → (rest : List ℕ) → G (done ++ x ∷ []) rest → G done (f x ++ rest)) → (rest : List ℕ) → G all rest → G [] (flat_map f all ++ rest)
one_by_one {X} f G all step rest g = from [] all refl g
  where
    from : (done left : List X) → done ++ left ≡ all → G all rest → G done (flat_map f left ++ rest)
    from done [] e h = subst (λ l. G l rest) (sym e ∙ append-nil done) h
    from done (x ∷ left) e h =
        let later = from (done ++ x ∷ []) left (append_assoc done (x ∷ []) left ∙ e) h in
        subst (G done) (sym (append_assoc (f x) (flat_map f left) rest)) (step done x left e (flat_map f left ++ rest) later)
