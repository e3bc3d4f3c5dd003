-- Which sheets wait, from one showing and one round to the next. Assumes nothing.
use Rattle.std.proofs.Common.{◌≡◌, ℕ, ◌+◌, ◌<◌, ◌≤◌, ◌⊎◌, bit_or, bit_xor, List, length, get_or, set, replicate, sym, refl, ap, ◌∙◌, subst, inl, inr, ⊎_elim, arith, get_or-set_other, get_or-set_same}
use Rattle.std.proofs.lemmas.List.{get_or_past, get_or-replicate, length-replicate}
use Rattle.std.proofs.lemmas.Bool.{cases_eq, cases_lt}
use Rattle.std.proofs.lemmas.Nat.Bits.{bit_at_or, bit_at_xor, bit_at-lt}
use Rattle.boxes.specs.Boxes.{Open, Within, Bit}
use Rattle.boxes.specs.Slots.{Lone, Added, Disjoint, Changed}
use Rattle.boxes.proofs.Bits.{bit, open_same, open_there}
use Rattle.settle.specs.declared.waiting.Waiting.{Waiting}
use Rattle.settle.specs.Settled.{Loses}
use Rattle.settle.specs.Waiting.{last_at, Spared, Quiet, Begun, Next, Passing, Looked, Turned}
use Rattle.settle.proofs.Scopes.{no_bit}
use Rattle.settle.proofs.Losing.{loses_before}

pub last_full : (t : ℕ) → ◌≡◌ {A = ℕ} (get_or (replicate 48 1024) t 1024) 1024
last_full t = ⊎_elim
    (λ lt. get_or-replicate 48 t 1024 1024 lt)
    (λ past. get_or_past (replicate 48 1024) t 1024 (omega (arith, length-replicate {A = ℕ} 48 1024, past)))
    (cases_lt t 48)

-- ---- sets of slots

-- a set that has no slot of two together has none of either
pub apart_both : (mask a b : ℕ) → Disjoint mask (bit_or a b) → Disjoint mask a × Disjoint mask b
unfolding Bit Disjoint
apart_both mask a b apart = (
  λ t x y. apart t x (let z : bit (bit_or a b) t ≡ 1 = omega (arith, bit_at_or a b t, y, bit_at-lt b t) in z),
  λ t x y. apart t x (let z : bit (bit_or a b) t ≡ 1 = omega (arith, bit_at_or a b t, y, bit_at-lt a t) in z),
)

bit_left : (a b t : ℕ) → Bit a t → Bit (bit_or a b) t
unfolding Bit
bit_left a b t y = let z : bit (bit_or a b) t ≡ 1 = omega (arith, bit_at_or a b t, y, bit_at-lt b t) in z

bit_right : (a b t : ℕ) → Bit b t → Bit (bit_or a b) t
unfolding Bit
bit_right a b t y = let z : bit (bit_or a b) t ≡ 1 = omega (arith, bit_at_or a b t, y, bit_at-lt a t) in z

-- a set without one of its slots has the others
others_stay : (a one s t : ℕ) → Lone one s → (t ≡ s → ⊥) → Bit a t → Bit (bit_xor a one) t
unfolding Bit
others_stay a one s t lone ne y =
    let out : bit one t ≡ 0 = ⊎_elim (λ e. absurd (ne (lone.only t e).0)) (λ no'. omega (arith, no', bit_at-lt one t)) (cases_eq (bit one t) 1) in
    let z : bit (bit_xor a one) t ≡ 1 = omega (arith, bit_at_xor a one t, y, out) in
    z

-- ---- slots that are dropped

pub passing_none : (w : Waiting) (k : ℕ) → Passing w w k
passing_none w k = record { known = refl; fresh = refl; last = refl; late = λ t x. inl x }

pub dropped : (late one slot k : ℕ) (last : List ℕ) → Lone one slot → get_or last slot 1024 ≤ k → (t : ℕ) → Bit late t → Bit (bit_xor late one) t ⊎ (get_or last t 1024 ≤ k)
dropped late one slot k last lone h t x = ⊎_elim (λ e. inr (subst (λ z. get_or last z 1024 ≤ k) (sym e) h)) (λ ne. inl (others_stay late one slot t lone ne x)) (cases_eq t slot)

pub passing_trans : (w v u : Waiting) (k : ℕ) → Passing w v k → Passing v u k → Passing w u k
passing_trans w v u k one two = record {
  known = two.known ∙ one.known;
  fresh = two.fresh ∙ one.fresh;
  last = two.last ∙ one.last;
  late = λ t x. ⊎_elim
      (λ y. ⊎_elim (λ z. inl z) (λ h. inr (subst (λ l. get_or l t 1024 ≤ k) one.last h)) (two.late t y))
      (λ h. inr h)
      (one.late t x);
}

pub passing_spared : (w v : Waiting) (k mask s : ℕ) → Passing w v k → Spared v mask s k → Spared w mask s k
passing_spared w v k mask s p q = record {
  passed = λ lt t x y. subst (λ l. get_or l t 1024 ≤ s) p.last (q.passed lt t x (subst (λ z. Bit z t) (sym p.fresh) y));
  fresh = λ le. subst (Disjoint mask) p.fresh (q.fresh le);
  late = λ le t x y. ⊎_elim (λ z. subst (λ l. get_or l t 1024 ≤ s) p.last (q.late le t x z)) (λ h. omega (arith, h, le)) (p.late t y);
}

pub passing_quiet : (w v : Waiting) (b : List ℕ) (k mask s : ℕ) → Passing w v k → Quiet v b mask s k → Quiet w b mask s k
passing_quiet w v b k mask s p q = record { spared = passing_spared w v k mask s p q.spared; seen = λ t o x h. q.seen t o x (subst (λ z. Open z.cells t o) (sym p.known) h) }

pub spared_apart : (w : Waiting) (mask k : ℕ) → Disjoint mask (bit_or w.late w.fresh) → Spared w mask k k
unfolding Disjoint
spared_apart w mask k apart =
    let both = apart_both mask w.late w.fresh apart in
    record { passed = λ lt. absurd (omega arith); fresh = λ le. both.1; late = λ le t x y. absurd (both.0 t x y) }

-- ---- sheets that are passed over

pub next_none : (masks : List ℕ) (j n set : ℕ) → j ≤ n → (s : ℕ) → j ≤ s → s < j → Disjoint (get_or masks s 0) set
next_none masks j n set h s le lt = absurd (omega arith)

pub next_more : (masks : List ℕ) (j k set : ℕ) → ((s : ℕ) → j ≤ s → s < k → Disjoint (get_or masks s 0) set) → Disjoint (get_or masks k 0) set → (s : ℕ) → j ≤ s → s < k + 1 → Disjoint (get_or masks s 0) set
next_more masks j k set was here s le lt = ⊎_elim (λ e. subst (λ x. Disjoint (get_or masks x 0) set) (sym e) here) (λ ne. was s le (omega arith)) (cases_eq s k)

pub spared_before : (w : Waiting) (masks : List ℕ) (j n k s : ℕ) → Next masks j n (bit_or w.late w.fresh) k → Spared w (get_or masks s 0) s k → Spared w (get_or masks s 0) s j
unfolding Disjoint
spared_before w masks j n k s next q = record {
  passed = λ lt. q.passed (omega (arith, lt, next.behind));
  fresh = λ le. ⊎_elim (λ lt. (apart_both _ w.late w.fresh (next.apart s le lt)).1) (λ ge. q.fresh ge) (cases_lt s k);
  late = λ le t x y. ⊎_elim (λ lt. absurd ((apart_both _ w.late w.fresh (next.apart s le lt)).0 t x y)) (λ ge. q.late ge t x y) (cases_lt s k);
}

-- ---- slots that are looked at

pub looked_none : (w : Waiting) (c : List ℕ) (k : ℕ) → Within c w.known.cells → Looked w w c k
looked_none w c k less = record { within = less; less = λ t o h. h; lost = λ ne. inl ne; quiet = λ mask s ne q. q }

pub looked_trans : (w v u : Waiting) (c : List ℕ) (k : ℕ) → Looked w v c k → Looked v u c k → Looked w u c k
looked_trans w v u c k one two = record {
  within = two.within;
  less = λ t o h. one.less t o (two.less t o h);
  lost = λ ne. ⊎_elim (λ x. one.lost x) (λ l. inr (loses_before w.known.cells v.known.cells c one.less l)) (two.lost ne);
  quiet = λ mask s ne q. one.quiet mask s ne (two.quiet mask s ne q);
}

-- the sheets that need not wait do not name the slot that lost an option
module _ (w v : Waiting) (c : List ℕ) (k slot : ℕ) (low : slot < 48) (long : length w.known.cells ≡ 48) (tall : length w.last ≡ 48) (cells : v.known.cells ≡ set w.known.cells slot (get_or c slot 0))
    (fresh : Added w.fresh v.fresh slot) (late : v.late ≡ w.late) (last : v.last ≡ set w.last slot k) where
  same_cells : (t : ℕ) → (t ≡ slot → ⊥) → get_or v.known.cells t 0 ≡ get_or w.known.cells t 0
  same_cells t ne = ap (λ x. get_or x t 0) cells ∙ get_or-set_other w.known.cells slot t (get_or c slot 0) 0 ne

  same_last : (t : ℕ) → (t ≡ slot → ⊥) → last_at v t ≡ last_at w t
  same_last t ne = ap (λ x. get_or x t 1024) last ∙ get_or-set_other w.last slot t k 1024 ne

  here : get_or v.known.cells slot 0 ≡ get_or c slot 0
  here = ap (λ x. get_or x slot 0) cells ∙ get_or-set_same w.known.cells slot (get_or c slot 0) 0 (omega (arith, long))

  here_last : last_at v slot ≡ k
  here_last = ap (λ x. get_or x slot 1024) last ∙ get_or-set_same w.last slot k 1024 (omega (arith, tall))

  out : (mask s : ℕ) → (s ≡ k → ⊥) → Spared v mask s k → Bit mask slot → ⊥
  unfolding Disjoint
  out mask s ne q x = ⊎_elim
      (λ lt. let h = q.passed lt slot x (fresh.here low) in absurd (omega (arith, h, here_last, lt)))
      (λ ge. q.fresh ge slot x (fresh.here low))
      (cases_lt s k)

  other : (mask s t : ℕ) → (s ≡ k → ⊥) → Spared v mask s k → Bit mask t → t ≡ slot → ⊥
  other mask s t ne q x e = out mask s ne q (subst (Bit mask) e x)

  pub looked_one : Within c w.known.cells → Loses w.known.cells c → Looked w v c k
  unfolding Disjoint
  looked_one less loses = record {
    within = λ t o h. ⊎_elim
        (λ e. subst (λ z. Open v.known.cells z o) (sym e) (open_same c v.known.cells slot o here (subst (λ z. Open c z o) e h)))
        (λ ne. open_same w.known.cells v.known.cells t o (same_cells t ne) (less t o h))
        (cases_eq t slot);
    less = λ t o h. ⊎_elim
        (λ e. less t o (subst (λ z. Open c z o) (sym e) (open_same v.known.cells c slot o (sym here) (subst (λ z. Open v.known.cells z o) e h))))
        (λ ne. open_same v.known.cells w.known.cells t o (sym (same_cells t ne)) h)
        (cases_eq t slot);
    lost = λ _. inr loses;
    quiet = λ mask s ne q. record {
      spared = record {
        passed = λ lt t x y. subst (λ z. z ≤ s) (same_last t (other mask s t ne q.spared x)) (q.spared.passed lt t x (fresh.more t y));
        fresh = λ le t x y. q.spared.fresh le t x (fresh.more t y);
        late = λ le t x y. subst (λ z. z ≤ s) (same_last t (other mask s t ne q.spared x)) (q.spared.late le t x (subst (λ z. Bit z t) (sym late) y));
      };
      seen = λ t o x h. q.seen t o x (open_same w.known.cells v.known.cells t o (same_cells t (other mask s t ne q.spared x)) h);
    };
  }

-- the next sheet is passed, or shown the box
pub quiet_next : (w : Waiting) (b : List ℕ) (mask s k : ℕ) → (s ≡ k → ⊥) → Quiet w b mask s (k + 1) → Quiet w b mask s k
quiet_next w b mask s k ne q = record {
  spared = record {
    passed = λ lt. q.spared.passed (omega arith);
    fresh = λ le. q.spared.fresh (let h : k + 1 ≤ s = ⊎_elim (λ lt. absurd (ne (omega arith))) (λ ge. ge) (cases_lt s (k + 1)) in h);
    late = λ le. q.spared.late (let h : k + 1 ≤ s = ⊎_elim (λ lt. absurd (ne (omega arith))) (λ ge. ge) (cases_lt s (k + 1)) in h);
  };
  seen = q.seen;
}

-- ---- the next round

-- what did not change is seen
unchanged : (known c : List ℕ) (set t o : ℕ) → length known ≡ 48 → Changed c known 48 set → (Bit set t → ⊥) → Open known t o → Open c t o
unchanged known c set t o long changed out h =
    let low : t < 48 = subst (λ x. t < x) long (open_there known t o h) in
    open_same known c t o (sym (changed.same t low out)) h

pub turned_seen : (w v : Waiting) (c : List ℕ) (unseen : ℕ) → length w.known.cells ≡ 48 → Within c w.known.cells → Changed c w.known.cells 48 unseen → unseen ≡ 0 → v.known ≡ w.known → v.last ≡ w.last
    → v.late ≡ bit_or w.fresh unseen → v.fresh ≡ 0 → Turned w v c
turned_seen w v c unseen long less changed none known last late fresh =
    let seen : Within w.known.cells c = λ t o h. unchanged w.known.cells c unseen t o long changed (λ x. no_bit t (subst (λ z. Bit z t) none x)) h in
    record {
      begun = record {
        within = λ t o h. subst (λ z. Open z.cells t o) (sym known) (less t o h);
        seen = λ t o h. seen t o (subst (λ z. Open z.cells t o) known h);
        fresh = fresh;
      };
      quiet = λ mask s k lt few q. record {
        spared = record {
          passed = λ _ t x y. subst (λ l. get_or l t 1024 ≤ s) last (q.spared.late (omega arith) t x (subst (λ z. Bit z t) (sym late) (bit_left w.fresh unseen t y)));
          fresh = λ le. absurd (omega arith);
          late = λ le. absurd (omega arith);
        };
        seen = λ t o x h. seen t o h;
      };
    }

pub turned_unseen : (w v : Waiting) (c : List ℕ) (unseen : ℕ) → length w.known.cells ≡ 48 → Changed c w.known.cells 48 unseen → v.known.cells ≡ c → ((t : ℕ) → last_at v t ≡ 1024)
    → v.late ≡ bit_or w.fresh unseen → v.fresh ≡ 0 → Turned w v c
turned_unseen w v c unseen long changed known last late fresh = record {
  begun = record {
    within = λ t o h. subst (λ z. Open z t o) (sym known) h;
    seen = λ t o h. subst (λ z. Open z t o) known h;
    fresh = fresh;
  };
  quiet = λ mask s k lt few q.
      let out : (t : ℕ) → Bit mask t → Bit (bit_or w.fresh unseen) t → ⊥ = λ t x y. let h = q.spared.late (omega arith) t x (subst (λ z. Bit z t) (sym late) y) in absurd (omega (arith, h, last t, few)) in
      record {
        spared = record {
          passed = λ _ t x y. absurd (out t x (bit_left w.fresh unseen t y));
          fresh = λ le. absurd (omega arith);
          late = λ le. absurd (omega arith);
        };
        seen = λ t o x h. unchanged w.known.cells c unseen t o long changed (λ y. out t x (bit_right w.fresh unseen t y)) h;
      };
}

-- where a round begins and no slot of the round before is left, no sheet waits
pub quiet_all : (w : Waiting) (b : List ℕ) (mask s : ℕ) → Begun w b → w.late ≡ 0 → Quiet w b mask s 0
unfolding Disjoint
quiet_all w b mask s begun none = record {
  spared = record {
    passed = λ lt. absurd (omega arith);
    fresh = λ le t x y. no_bit t (subst (λ z. Bit z t) begun.fresh y);
    late = λ le t x y. absurd (no_bit t (subst (λ z. Bit z t) none y));
  };
  seen = λ t o x h. begun.seen t o h;
}

-- at first those wait that name a lost slot
pub first_apart : (w : Waiting) (b : List ℕ) (mask s lost : ℕ) → w.late ≡ lost → ((t : ℕ) → last_at w t ≡ 1024) → s < 1024 → Quiet w b mask s 0 → Disjoint mask lost
unfolding Disjoint
first_apart w b mask s lost late last few q t x y = let h = q.spared.late (omega arith) t x (subst (λ z. Bit z t) (sym late) y) in absurd (omega (arith, h, last t, few))
