-- The reckoner's refusals are the refusals. Assumes nothing.
use Rattle.std.proofs.Common.{◌≡◌, ℕ, zero, suc, ◌<◌, ◌≤◌, T, eqb, ltb, leb, List, length, get_or, subst, arith, nltb→le}
use lib.Dec.{not_T, nleb→lt}
use Rattle.subject.specs.Problem.{Problem}
use Rattle.subject.specs.Decisions.{Decision, Open, Largest, tries}
use Rattle.subject.specs.Logs.{Call, try, strike, back, begin, end, look, next, Refuses}
use Rattle.subject.specs.Logs.{try_no_slot, try_no_option, try_shut, try_full, strike_no_slot, strike_no_option, strike_shut, back_none, look_no_slot, next_short}
use Rattle.subject.proofs.Standing.{free_try, free_strike, free_back, free_look, free_next, free_begin, free_end}
use Rattle.examples.proofs.Tests.{eqb_is, ltb_is, leb_is, chosen}
use Rattle.examples.proofs.Reckoner.{opens, settled, finished}
use Rattle.examples.proofs.Answering.{refusal}
use Rattle.examples.proofs.Settled.{settled_largest}

-- what a call that is not refused has
abbrev pub Possible : Problem → List Decision → Call → Type 0
Possible P D (try s o) = Open P D s o × (tries D < 16)
Possible P D (strike s o) = Open P D s o
Possible P D back = 0 < tries D
Possible P D begin = Unit {0}
Possible P D end = Unit {0}
Possible P D (look s) = s < length P.sizes
Possible P D (next n) = length P.sizes ≤ n

pub possible_free : (P : Problem) (D : List Decision) (c : Call) → Possible P D c → (n : ℕ) → Refuses P D c n → ⊥
possible_free P D (try s o) h n = free_try P D s o n h.0 h.1
possible_free P D (strike s o) h n = free_strike P D s o n h
possible_free P D back h n = free_back P D n h
possible_free P D begin h n = free_begin P D n
possible_free P D end h n = free_end P D n
possible_free P D (look s) h n = free_look P D s n h
possible_free P D (next k) h n = free_next P D k n h

-- a call's refusal has the number n, or n is 0 and the call is not refused
pub data Ruled (P : Problem) (D : List Decision) (c : Call) : ℕ → Type 0 where
  free : Possible P D c → Ruled P D c 0
  barred : {n : ℕ} → Refuses P D c (suc n) → Ruled P D c (suc n)

over : (m n : ℕ) → (T (leb m n) → ⊥) → n < m
over m n f = nleb→lt m n (not_T (leb m n) f)

some : (n : ℕ) → (T (eqb n 0) → ⊥) → 0 < n
some zero f = absurd (f tt)
some (suc n) f = omega arith

module _ (P : Problem) (D : List Decision) (big : Largest P D (opens (settled P D))) where
  pub ruled : (c : Call) → Ruled P D c (refusal P D c)
  unfolding refusal
  ruled (try s o) =
      chosen (Ruled P D (try s o)) (leb (length P.sizes) s) _ _ (λ t. barred (try_no_slot ((leb_is _ s).0 t)))
      (λ f.
      chosen (Ruled P D (try s o)) (leb (get_or P.sizes s 0) o) _ _ (λ t. barred (try_no_option (over _ s f) ((leb_is _ o).0 t)))
      (λ g.
      chosen (Ruled P D (try s o)) (opens (settled P D) s o) _ _
      (λ t.
      chosen (Ruled P D (try s o)) (leb 16 (tries D)) _ _ (λ u. barred (try_full ((big s o).0 t) ((leb_is 16 (tries D)).0 u)))
      (λ u. free ((big s o).0 t, over 16 (tries D) u)))
      (λ t. barred (try_shut (over _ s f, over _ o g) (λ w. t ((big s o).1 w))))))
  ruled (strike s o) =
      chosen (Ruled P D (strike s o)) (leb (length P.sizes) s) _ _ (λ t. barred (strike_no_slot ((leb_is _ s).0 t)))
      (λ f.
      chosen (Ruled P D (strike s o)) (leb (get_or P.sizes s 0) o) _ _ (λ t. barred (strike_no_option (over _ s f) ((leb_is _ o).0 t)))
      (λ g.
      chosen (Ruled P D (strike s o)) (opens (settled P D) s o) _ _ (λ t. free ((big s o).0 t))
      (λ t. barred (strike_shut (over _ s f, over _ o g) (λ w. t ((big s o).1 w))))))
  ruled back =
      chosen (Ruled P D back) (eqb (tries D) 0) _ _ (λ t. barred (back_none ((eqb_is (tries D) 0).0 t)))
      (λ f. free (some (tries D) f))
  ruled begin = free tt
  ruled end = free tt
  ruled (look s) =
      chosen (Ruled P D (look s)) (leb (length P.sizes) s) _ _ (λ t. barred (look_no_slot ((leb_is _ s).0 t)))
      (λ f. free (over _ s f))
  ruled (next k) =
      chosen (Ruled P D (next k)) (ltb k (length P.sizes)) _ _ (λ t. barred (next_short ((ltb_is k _).0 t)))
      (λ f. free (nltb→le k _ (not_T (ltb k _) f)))

pub refuses_so : (P : Problem) (D : List Decision) (c : Call) (n : ℕ) → T (finished P D) → refusal P D c ≡ suc n → Refuses P D c (suc n)
refuses_so P D c n t e = go (subst (Ruled P D c) e (ruled P D (settled_largest P D t) c))
  where
    go : Ruled P D c (suc n) → Refuses P D c (suc n)
    go (barred r) = r
