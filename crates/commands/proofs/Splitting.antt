-- How an input is split into its lines. Assumes nothing.
use Rattle.std.proofs.Common.{◌≡◌, ℕ, zero, suc, ◌+◌, ◌-◌, ◌<◌, ◌≤◌, true, false, cond, eqb, ◌⊎◌, List, [], ◌∷◌, ◌++◌, length, get_or, take, drop, Some, None, Option, unwrap_or, sym, refl, ap, ◌∙◌, subst, inl, inr, add-one, arith}
use Rattle.std.proofs.lemmas.List.{length-drop}
use Rattle.std.specs.List.{position, position_or_len}
use Rattle.std.proofs.lemmas.List.Recursion.{is_position_or_len}
use Rattle.std.proofs.lemmas.List.Sums.{prefix_len-le-length}
use Rattle.std.proofs.lemmas.Bool.Decides.{nat_tests}
use Rattle.commands.specs.Places.{ahead}
use Rattle.commands.specs.Lines.{longer, lines_of, Whole}
use Rattle.std.specs.Option.{MatchOption}

-- as many as stand before the place that a search finds, or in all
pub ahead_position : (b : ℕ) (xs : List ℕ) → unwrap_or (position (λ x. eqb x b) xs) (length xs) ≡ ahead b xs
ahead_position b xs =
    let same : ahead b xs ≡ position_or_len (λ x. eqb x b) xs = is_position_or_len (ahead b) (λ x. eqb x b) refl (λ x xs. grind arith) xs in
    grind (arith, nat_tests, prefix_len-le-length)

-- the first line is what stands before its end, and the others are the lines behind that end
pub first_line : (b : ℕ) (bs : List ℕ) → lines_of (b ∷ bs) ≡ take (ahead 10 (b ∷ bs)) (b ∷ bs) ∷ lines_of (drop (suc (ahead 10 (b ∷ bs))) (b ∷ bs))
first_line b [] = elim (eqb b 10) as (λ t. cond t ([] ∷ []) ((b ∷ []) ∷ []) ≡ take (cond t 0 1) (b ∷ []) ∷ lines_of (drop (suc (cond t 0 1)) (b ∷ []))) [ true ↦ refl | false ↦ refl ]
first_line b (c ∷ bs) =
    let n = ahead 10 (c ∷ bs) in
    elim (eqb b 10) as (λ t. cond t ([] ∷ lines_of (c ∷ bs)) (longer b (lines_of (c ∷ bs))) ≡ take (cond t 0 (suc n)) (b ∷ c ∷ bs) ∷ lines_of (drop (suc (cond t 0 (suc n))) (b ∷ c ∷ bs)))
    [ true ↦ refl | false ↦ ap (longer b) (first_line c bs) ]

-- a byte more at the front of the first line changes none behind
longer_append : (b c : ℕ) (bs : List ℕ) (ls : List (List ℕ)) → longer b (lines_of (c ∷ bs) ++ ls) ≡ longer b (lines_of (c ∷ bs)) ++ ls
longer_append b c bs ls = let e = first_line c bs in ap (λ ks. longer b (ks ++ ls)) e ∙ sym (ap (λ ks. longer b ks ++ ls) e)

-- cut behind a line end, an input has the lines of its two parts
cut_behind : (m : ℕ) (bs : List ℕ) → m < length bs → get_or bs m 0 ≡ 10 → lines_of bs ≡ lines_of (take (suc m) bs) ++ lines_of (drop (suc m) bs)
cut_behind m [] h e = absurd (omega arith)
cut_behind zero (b ∷ bs) h e = subst (λ x. lines_of (x ∷ bs) ≡ lines_of (x ∷ []) ++ lines_of bs) (sym e) refl
cut_behind (suc m) (b ∷ []) h e = absurd (omega arith)
cut_behind (suc m) (b ∷ c ∷ bs) h e =
    let more = cut_behind m (c ∷ bs) (omega arith) e in
    let front = take (suc m) (c ∷ bs) in
    let back = lines_of (drop m bs) in
    elim (eqb b 10) as (λ t. cond t ([] ∷ lines_of (c ∷ bs)) (longer b (lines_of (c ∷ bs))) ≡ cond t ([] ∷ lines_of front) (longer b (lines_of front)) ++ back)
    [ true ↦ ap (λ ls. [] ∷ ls) more | false ↦ ap (longer b) more ∙ longer_append b c (take m bs) back ]

pub cut_whole : (n : ℕ) (bs : List ℕ) → n ≤ length bs → (n ≡ 0) ⊎ (get_or bs (n - 1) 0 ≡ 10) → lines_of bs ≡ lines_of (take n bs) ++ lines_of (drop n bs)
cut_whole zero bs h e = refl
cut_whole (suc m) bs h (inl e) = absurd (omega arith)
cut_whole (suc m) bs h (inr e) = cut_behind m bs (omega arith) (ap (λ k. get_or bs k 0) (omega arith) ∙ e)

-- The line that begins at a place is what stands there before the next line end. The next line begins
-- behind that end, or there is none.
-- a line taken off the front, up to its end
pub line_taken : (bs line cs : List ℕ) (n : ℕ) → 0 < length bs → n ≡ ahead 10 bs → line ≡ take n bs → cs ≡ drop (n + 1) bs → (lines_of bs ≡ line ∷ lines_of cs) × (length cs < length bs)
line_taken [] line cs n some is front back = absurd (omega arith)
line_taken (b ∷ bs) line cs n some is front back =
    let back' : cs ≡ drop (suc n) (b ∷ bs) = back ∙ ap (λ k. drop k (b ∷ bs)) (add-one n) in
    let first = first_line b bs in
    let shorter = length-drop (suc n) (b ∷ bs) in
    (rw (front, back', is) first, rw back' (omega arith))

-- the whole lines end behind the last line end
pub whole_behind : (bs : List ℕ) (last : Option ℕ) (n : ℕ)
    → MatchOption last ((k : ℕ) → k < length bs → get_or bs k 0 ≡ 10 → ⊥) (λ i. (i < length bs) × (get_or bs i 0 ≡ 10) × ((k : ℕ) → i < k → k < length bs → get_or bs k 0 ≡ 10 → ⊥))
    → MatchOption last (n ≡ 0) (λ i. n ≡ i + 1) → Whole bs n
whole_behind bs None n none is =
    record { within = omega arith; ended = inl is; last = λ k from below. none k below; splits = cut_whole n bs (omega arith) (inl is) }
whole_behind bs (Some i) n (below, at, behind) is =
    let ended : get_or bs (n - 1) 0 ≡ 10 = ap (λ k. get_or bs k 0) (omega arith) ∙ at in
    record { within = omega arith; ended = inr ended; last = λ k from. behind k (omega arith); splits = cut_whole n bs (omega arith) (inr ended) }
