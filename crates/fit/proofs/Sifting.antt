-- A run that is sifted by swaps, and what that does to the places that it lies in. Assumes nothing.
use Rattle.std.proofs.Common.{◌≡◌, ℕ, ◌+◌, ◌-◌, ◌<◌, ◌≤◌, List, ◌++◌, length, get_or, take, drop, sym, refl, ap, ◌∙◌, subst, ⊎_elim, arith, length-append, length-take, length-drop, get_or-take, get_or-drop, below_more}
use borrow.Rule.Slice.PartMut.{mid_of, put_mid}
use Rattle.std.specs.List.{SwappedAt}
use Rattle.std.proofs.lemmas.Bool.{cases_eq, cases_lt}
use Rattle.std.proofs.lemmas.List.{length-take-le, get_or_append_left, get_or-append_right}
use Rattle.fit.specs.Runs.{Among, InFront, Sifted}

-- the sift on its way: the first `place` of the `left` that may stay are good
pub record Sifting (Good : ℕ → Type 0) (xs ys : List ℕ) (left place : ℕ) : Type 0 where
  pub long : length ys ≡ length xs
  pub fewer : left ≤ length xs
  pub near : place ≤ left
  pub into : (v : ℕ) → InFront xs (length xs) v → InFront ys (length xs) v
  pub back : (v : ℕ) → InFront ys (length xs) v → InFront xs (length xs) v
  pub good : (p : ℕ) → p < place → Good (get_or ys p 0)
  pub still : (v : ℕ) → InFront xs (length xs) v → Good v → InFront ys left v

-- of two lists with places i and j exchanged, each has what the other has, on each front that holds both
swapped_front : (xs ys : List ℕ) (i j n v : ℕ) → SwappedAt xs ys i j → i < n → j < n → InFront xs n v → InFront ys n v
swapped_front xs ys i j n v h hi hj a =
    ⊎_elim (λ e. record { place = j; below = hj; is = h.1 0 ∙ ap (λ k. get_or xs k 0) (sym e) ∙ a.is })
    (λ ni. ⊎_elim (λ e. record { place = i; below = hi; is = h.0 0 ∙ ap (λ k. get_or xs k 0) (sym e) ∙ a.is })
    (λ nj. record { place = a.place; below = a.below; is = h.2 a.place 0 ni nj ∙ a.is })
    (cases_eq a.place j)) (cases_eq a.place i)

swapped_back : (xs ys : List ℕ) (i j n v : ℕ) → SwappedAt xs ys i j → i < n → j < n → InFront ys n v → InFront xs n v
swapped_back xs ys i j n v h hi hj a =
    ⊎_elim (λ e. record { place = j; below = hj; is = sym (h.0 0) ∙ ap (λ k. get_or ys k 0) (sym e) ∙ a.is })
    (λ ni. ⊎_elim (λ e. record { place = i; below = hi; is = sym (h.1 0) ∙ ap (λ k. get_or ys k 0) (sym e) ∙ a.is })
    (λ nj. record { place = a.place; below = a.below; is = sym (h.2 a.place 0 ni nj) ∙ a.is })
    (cases_eq a.place j)) (cases_eq a.place i)

module _ (Good : ℕ → Type 0) (xs : List ℕ) where
  pub sifting_none : Sifting Good xs xs (length xs) 0
  sifting_none = record { long = refl; fewer = omega arith; near = omega arith; into = λ v a. a; back = λ v a. a; good = λ p h. absurd (omega arith); still = λ v a g. a }

  module _ (ys : List ℕ) (left place : ℕ) (s : Sifting Good xs ys left place) where
    pub sifting_all : left ≤ place → Sifted Good xs ys left
    sifting_all h = record { long = s.long; fewer = s.fewer; into = s.into; back = s.back; good = λ p q. s.good p (omega arith); still = s.still }

    pub sifting_good : place < left → Good (get_or ys place 0) → Sifting Good xs ys left (place + 1)
    sifting_good h g = record {
      long = s.long;
      fewer = s.fewer;
      near = omega arith;
      into = s.into;
      back = s.back;
      good = below_more (λ p. Good (get_or ys p 0)) place s.good g;
      still = s.still;
    }

    pub sifting_bad : (zs : List ℕ) → length zs ≡ length ys → place < left → (Good (get_or ys place 0) → ⊥) → SwappedAt ys zs place (left - 1) → Sifting Good xs zs (left - 1) place
    sifting_bad zs long h bad w =
        let q : left ≤ length xs = s.fewer in
        let hi : place < length xs = omega arith in
        let hj : left - 1 < length xs = omega arith in
        record {
          long = long ∙ s.long;
          fewer = omega arith;
          near = omega arith;
          into = λ v a. swapped_front ys zs place (left - 1) (length xs) v w hi hj (s.into v a);
          back = λ v a. s.back v (swapped_back ys zs place (left - 1) (length xs) v w hi hj a);
          good = λ p lt. subst Good (sym (w.2 p 0 (λ e. omega arith) (λ e. omega arith))) (s.good p lt);
          still = λ v a g.
              let was : InFront ys left v = s.still v a g in
              ⊎_elim (λ e. absurd (bad (subst Good (sym was.is ∙ ap (λ k. get_or ys k 0) e) g)))
              (λ ni. ⊎_elim
              (λ e. record { place = place; below = omega (arith, was.below); is = w.0 0 ∙ ap (λ k. get_or ys k 0) (sym e) ∙ was.is })
              (λ nj. record { place = was.place; below = omega (arith, was.below); is = w.2 was.place 0 ni nj ∙ was.is })
              (cases_eq was.place (left - 1)))
              (cases_eq was.place place);
        }

    -- each place of the run holds what some place of it held
    pub sifting_from : (p : ℕ) → p < length xs → InFront xs (length xs) (get_or ys p 0)
    sifting_from p h = s.back (get_or ys p 0) (record { place = p; below = h; is = refl })

    -- so what the numbers of the rows are known to be is known of each place still
    pub sifting_each : (P : ℕ → Type 0) → ((p : ℕ) → p < length xs → P (get_or xs p 0)) → (p : ℕ) → p < length xs → P (get_or ys p 0)
    sifting_each P f p h = let a = sifting_from p h in subst P a.is (f a.place a.below)

-- ys has on the n places from `from` on what xs has there, in some order, and so on each longer run; elsewhere it is as xs
pub record Mixed (xs ys : List ℕ) (from n : ℕ) : Type 0 where
  pub into : (v m : ℕ) → n ≤ m → Among xs from m v → Among ys from m v
  pub back : (v m : ℕ) → n ≤ m → Among ys from m v → Among xs from m v
  pub under : (p : ℕ) → p < from → get_or ys p 0 ≡ get_or xs p 0
  pub past : (p : ℕ) → from + n ≤ p → get_or ys p 0 ≡ get_or xs p 0

-- k of the n places are left once those that are not good are dropped: what they hold is good, and no good one is lost
pub record SiftedRun (Good : ℕ → Type 0) (xs ys : List ℕ) (from n k : ℕ) : Type 0 where
  pub fewer : k ≤ n
  pub mixed : Mixed xs ys from n
  pub good : (p : ℕ) → p < k → Good (get_or ys (from + p) 0)
  pub still : (v : ℕ) → Among xs from n v → Good v → Among ys from k v

-- the n places from `from` on hold the list `run`
pub record HoldsRun (xs run : List ℕ) (from n : ℕ) : Type 0 where
  pub long : length run ≡ n
  pub at : (p : ℕ) → p < n → get_or xs (from + p) 0 ≡ get_or run p 0

pub lies_mid : (xs : List ℕ) (from k n : ℕ) → k ≡ n → from + n ≤ length xs → HoldsRun xs (mid_of from k xs) from n
lies_mid xs from k n e h = record {
  long = simp (length-take, length-drop) (omega arith);
  at = λ p lt. let lk : p < k = omega arith in sym (get_or-take k (drop from xs) p 0 lk ∙ get_or-drop from xs p 0);
}

-- `run` is replaced by `next` there, and elsewhere ys is as xs
pub record Replaced (xs ys run next : List ℕ) (from n : ℕ) : Type 0 where
  pub was : HoldsRun xs run from n
  pub is : HoldsRun ys next from n
  pub under : (p : ℕ) → p < from → get_or ys p 0 ≡ get_or xs p 0
  pub past : (p : ℕ) → from + n ≤ p → get_or ys p 0 ≡ get_or xs p 0

pub replaced_mid : (xs next : List ℕ) (from k n : ℕ) → k ≡ n → from + n ≤ length xs → length next ≡ n → Replaced xs (put_mid from k xs next) (mid_of from k xs) next from n
replaced_mid xs next from k n e h long =
    let front : length (take from xs) ≡ from = simp length-take (omega arith) in
    record {
      was = lies_mid xs from k n e h;
      is = record {
        long = long;
        at = λ p lt.
            let z : from + p - from ≡ p = omega arith in
            let le : from ≤ from + p = omega arith in
            get_or-append_right (take from xs) (next ++ drop k (drop from xs)) from (from + p) 0 front le
            ∙ ap (λ q. get_or (next ++ drop k (drop from xs)) q 0) z
            ∙ get_or_append_left next (drop k (drop from xs)) 0 p (omega arith);
      };
      under = λ p lt. get_or_append_left (take from xs) (next ++ drop k (drop from xs)) 0 p (omega arith) ∙ get_or-take from xs p 0 lt;
      past = λ p ge.
          let le : from ≤ p = omega arith in
          let z : n ≤ p - from = omega arith in
          let back : from + (k + (p - from - n)) ≡ p = omega arith in
          get_or-append_right (take from xs) (next ++ drop k (drop from xs)) from p 0 front le
          ∙ get_or-append_right next (drop k (drop from xs)) n (p - from) 0 long z
          ∙ get_or-drop k (drop from xs) (p - from - n) 0
          ∙ get_or-drop from xs (k + (p - from - n)) 0
          ∙ ap (λ q. get_or xs q 0) back;
    }

module _ (Good : ℕ → Type 0) (xs ys run next : List ℕ) (from n k : ℕ) (r : Replaced xs ys run next from n) (s : Sifted Good run next k) where
  in_run : (v : ℕ) → Among xs from n v → InFront run (length run) v
  in_run v a = record { place = a.place; below = omega (arith, a.below, r.was.long); is = sym (r.was.at a.place a.below) ∙ a.is }

  of_run : (v : ℕ) → InFront run (length run) v → Among xs from n v
  of_run v a = let lt : a.place < n = omega (arith, a.below, r.was.long) in record { place = a.place; below = lt; is = r.was.at a.place lt ∙ a.is }

  in_next : (v : ℕ) → Among ys from n v → InFront next (length run) v
  in_next v a = record { place = a.place; below = omega (arith, a.below, r.was.long); is = sym (r.is.at a.place a.below) ∙ a.is }

  of_next : (v m : ℕ) → m ≤ n → InFront next m v → Among ys from m v
  of_next v m h a = record { place = a.place; below = a.below; is = r.is.at a.place (omega (arith, a.below)) ∙ a.is }

  longer : (zs : List ℕ) (v m : ℕ) → n ≤ m → Among zs from n v → Among zs from m v
  longer zs v m h a = record { place = a.place; below = omega (arith, a.below); is = a.is }

  mixed_run : Mixed xs ys from n
  mixed_run = record {
    into = λ v m h a. ⊎_elim
        (λ lt. longer ys v m h (of_next v n (omega arith) (subst (λ (j : ℕ). InFront next j v) r.was.long (s.into v (in_run v (record { place = a.place; below = lt; is = a.is }))))))
        (λ ge. record { place = a.place; below = a.below; is = r.past (from + a.place) (omega arith) ∙ a.is })
        (cases_lt a.place n);
    back = λ v m h a. ⊎_elim
        (λ lt. longer xs v m h (of_run v (s.back v (in_next v (record { place = a.place; below = lt; is = a.is })))))
        (λ ge. record { place = a.place; below = a.below; is = sym (r.past (from + a.place) (omega arith)) ∙ a.is })
        (cases_lt a.place n);
    under = r.under;
    past = r.past;
  }

  -- what a sift of a run does to the places that it lies in
  pub sifted_run : SiftedRun Good xs ys from n k
  sifted_run =
      let few : k ≤ n = omega (arith, s.fewer, r.was.long) in
      record {
        fewer = few;
        mixed = mixed_run;
        good = λ p h. subst Good (sym (r.is.at p (omega arith))) (s.good p h);
        still = λ v a g. of_next v k few (s.still v (in_run v a) g);
      }

-- a sift of the n places from `from` on
module _ (Good : ℕ → Type 0) (xs next : List ℕ) (from k n left : ℕ) (e : k ≡ n) (h : from + n ≤ length xs) (s : Sifted Good (mid_of from k xs) next left) where
  run_long : length (mid_of from k xs) ≡ n
  run_long = (lies_mid xs from k n e h).long

  replaced : Replaced xs (put_mid from k xs next) (mid_of from k xs) next from n
  replaced = replaced_mid xs next from k n e h (s.long ∙ run_long)

  pub sifted_part : SiftedRun Good xs (put_mid from k xs next) from n left
  sifted_part = sifted_run Good xs (put_mid from k xs next) (mid_of from k xs) next from n left replaced s

  -- the run as it lies there after
  pub lies_after : HoldsRun (put_mid from k xs next) (mid_of from k (put_mid from k xs next)) from n
  lies_after =
      let long : length next ≡ n = s.long ∙ run_long in
      let same : length (put_mid from k xs next) ≡ length xs = simp (length-append, length-take, length-drop) (omega arith) in
      lies_mid (put_mid from k xs next) from k n e (omega arith)

  -- and its front, the places that are left
  pub lies_left : HoldsRun (put_mid from k xs next) (take left (mid_of from k (put_mid from k xs next))) from left
  lies_left =
      let few : left ≤ n = omega (arith, s.fewer, run_long) in
      let long = lies_after.long in
      record {
        long = length-take-le left (mid_of from k (put_mid from k xs next)) (omega arith);
        at = λ p lt. lies_after.at p (omega arith) ∙ sym (get_or-take left (mid_of from k (put_mid from k xs next)) p 0 lt);
      }
