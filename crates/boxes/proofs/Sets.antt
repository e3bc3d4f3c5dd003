-- Sets of slots as numbers. Assumes nothing.
use Rattle.std.proofs.Common.{◌≡◌, ℕ, ◌+◌, ◌*◌, ◌%◌, ◌^◌, ◌<◌, ◌≤◌, ◌≢◌, nat_eq, bit_and, bit_or, List, get_or, Decides, sym, refl, ap, ◌∙◌, subst, inl, inr, ⊎_elim, arith}
use Rattle.std.proofs.lemmas.Nat.{one_shl}
use Rattle.std.proofs.lemmas.Nat.Bits.{bit_at_and, bit_at_or, bit_at-zero, bit_at-lt}
use Rattle.std.proofs.lemmas.Bool.{cases_eq}
use Rattle.std.proofs.lemmas.Bool.Decides.{Decides-eqb}
use Rattle.subject.proofs.Bits as Number
use Rattle.boxes.specs.Boxes.{Bit}
use Rattle.boxes.specs.Slots.{EverySlot, Lone, Added, Disjoint, Changed}
use Rattle.boxes.proofs.Bits.{bit}
use Rattle.boxes.proofs.Counting.{differ_there}

pub whole : EverySlot 281474976710655
unfolding Bit
whole = record {
  only = λ t b. Number.small_bit 48 281474976710655 t (omega arith) b;
  here = λ t h. Number.ones_bit 48 t h;
}

pub lone : (s : ℕ) → s < 48 → Lone ((1 * 2 ^ s) % 18446744073709551616) s
unfolding Bit
lone s h =
    subst (λ m. Lone m s) (sym (one_shl s 64 (omega arith))) (record {
      only = λ t b. let e = (Number.one_bit s t).0 b in (e, omega (arith, e));
      here = λ _. (Number.one_bit s s).1 refl;
    })

pub lone_none : (s : ℕ) → 48 ≤ s → Lone 0 s
unfolding Bit
lone_none s h = record { only = λ t b. absurd (let y : ◌≡◌ {A = ℕ} 0 1 = sym (bit_at-zero t) ∙ b in omega arith); here = λ k. absurd (omega arith) }

pub added : (set s one : ℕ) → Lone one s → Added set (bit_or set one) s
unfolding Bit
added set s one l = record {
  only = λ t b. ⊎_elim
      (λ e. inl e)
      (λ ne. inr (l.only t (let o : bit one t ≡ 1 = omega (arith, bit_at_or set one t, b, ne, bit_at-lt set t, bit_at-lt one t) in o)))
      (cases_eq (bit set t) 1);
  more = λ t b. let x : bit (bit_or set one) t ≡ 1 = omega (arith, bit_at_or set one t, b, bit_at-lt one t) in x;
  here = λ h. let k : bit one s ≡ 1 = l.here h in let x : bit (bit_or set one) s ≡ 1 = omega (arith, bit_at_or set one s, k, bit_at-lt set s) in x;
}

pub apart : (a b : ℕ) → Decides (nat_eq (bit_and a b) 0) (Disjoint a b)
unfolding Bit Disjoint
apart a b = (
  λ t u x y.
      let z : bit_and a b ≡ 0 = (Decides-eqb (bit_and a b) 0).0 t in
      let w : bit (bit_and a b) u ≡ 1 = omega (arith, bit_at_and a b u, x, y) in
      absurd (let v : ◌≡◌ {A = ℕ} 0 1 = sym (bit_at-zero u) ∙ sym (ap (λ n. bit n u) z) ∙ w in omega arith),
  λ f. (Decides-eqb (bit_and a b) 0).1 (⊎_elim
      (λ e. e)
      (λ ne.
      let w = Number.some_bit (bit_and a b) (bit_and a b) (omega arith) ne in
      let x : bit a w.0 ≡ 1 = omega (arith, bit_at_and a b w.0, w.1, bit_at-lt a w.0, bit_at-lt b w.0) in
      let y : bit b w.0 ≡ 1 = omega (arith, bit_at_and a b w.0, w.1, bit_at-lt a w.0, bit_at-lt b w.0) in
      absurd (f w.0 x y))
      (cases_eq (bit_and a b) 0)),
)

-- ---- the slots that changed

pub changed_none : (b c : List ℕ) → Changed b c 0 0
unfolding Bit
changed_none b c = record { other = λ t x. absurd (let y : ◌≡◌ {A = ℕ} 0 1 = sym (bit_at-zero t) ∙ x in omega arith); same = λ t h. absurd (omega arith) }

-- one slot more, which did or did not
pub changed_more : (b c : List ℕ) (s set new : ℕ) → s < 48 → get_or b s 0 < 2 ^ 32 → get_or c s 0 < 2 ^ 32 → (get_or b s 0 ≢ get_or c s 0) → Changed b c s set → Added set new s → Changed b c (s + 1) new
changed_more b c s set new low hb hc ne was a = record {
  other = λ t x. ⊎_elim
      (λ old. let o = was.other t old in (omega (arith, o.0), o.1, o.2))
      (λ e. let d = differ_there b c s low hb hc ne in (omega (arith, e.0), d.0, d.1 ∙ sym e.0))
      (a.only t x);
  same = λ t h out. ⊎_elim
      (λ e. absurd (out (subst (Bit new) (sym e) (a.here low))))
      (λ apart. was.same t (omega arith) (λ old. out (a.more t old)))
      (cases_eq t s);
}

pub changed_same : (b c : List ℕ) (s set : ℕ) → get_or b s 0 ≡ get_or c s 0 → Changed b c s set → Changed b c (s + 1) set
changed_same b c s set e was = record {
  other = λ t x. let o = was.other t x in (omega (arith, o.0), o.1, o.2);
  same = λ t h out. ⊎_elim
      (λ q. subst (λ u. get_or c u 0 ≡ get_or b u 0) (sym q) (sym e))
      (λ apart. was.same t (omega arith) out)
      (cases_eq t s);
}
