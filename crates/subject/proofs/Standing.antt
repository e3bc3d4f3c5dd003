-- The decisions that stand, reckoned from the calls alone. Assumes nothing.
use Rattle.std.proofs.Common.{◌≡◌, ℕ, ◌<◌, ◌≤◌, List, [], ◌∷◌, length, sym, refl, ap, ◌∙◌, subst, inl, inr, arith}
use Rattle.subject.specs.Problem.{Problem, Real}
use Rattle.subject.specs.Decisions.{Decision, Open, tries}
use Rattle.subject.specs.Plans.{Plan}
use Rattle.subject.specs.Logs.{Call, Answer, decided, given, Refuses, Then, Standing, Reckoned}
use Rattle.subject.specs.Logs.{try, strike, back, begin, end, look, next, refused}
use Rattle.subject.specs.Logs.{try_no_slot, try_no_option, try_shut, try_full, strike_no_slot, strike_no_option, strike_shut, back_none, look_no_slot, next_short}
use Rattle.subject.specs.Logs.{refuses, try_done, strike_done, back_done, look_done, begin_done, end_done, next_plan, next_none}
use Rattle.subject.specs.Law.{Determinate, Fair}

pub open_real : (P : Problem) (D : List Decision) (s o : ℕ) → Open P D s o → Real P s o
open_real P D s o w = w.1.real s o w.3

module _ (P : Problem) (D : List Decision) where
  -- a call has one refusal at most
  pub one_refusal : (c : Call) (n m : ℕ) → Refuses P D c n → Refuses P D c m → n ≡ m
  one_refusal (try s o) n m (try_no_slot a) (try_no_slot b) = refl
  one_refusal (try s o) n m (try_no_slot a) (try_no_option b e) = absurd (omega arith)
  one_refusal (try s o) n m (try_no_slot a) (try_shut b e) = absurd (omega (arith, b.0))
  one_refusal (try s o) n m (try_no_slot a) (try_full b e) = absurd (omega (arith, (open_real P D s o b).0))
  one_refusal (try s o) n m (try_no_option a d) (try_no_slot b) = absurd (omega arith)
  one_refusal (try s o) n m (try_no_option a d) (try_no_option b e) = refl
  one_refusal (try s o) n m (try_no_option a d) (try_shut b e) = absurd (omega (arith, b.1))
  one_refusal (try s o) n m (try_no_option a d) (try_full b e) = absurd (omega (arith, (open_real P D s o b).1))
  one_refusal (try s o) n m (try_shut a d) (try_no_slot b) = absurd (omega (arith, a.0))
  one_refusal (try s o) n m (try_shut a d) (try_no_option b e) = absurd (omega (arith, a.1))
  one_refusal (try s o) n m (try_shut a d) (try_shut b e) = refl
  one_refusal (try s o) n m (try_shut a d) (try_full b e) = absurd (d b)
  one_refusal (try s o) n m (try_full a d) (try_no_slot b) = absurd (omega (arith, (open_real P D s o a).0))
  one_refusal (try s o) n m (try_full a d) (try_no_option b e) = absurd (omega (arith, (open_real P D s o a).1))
  one_refusal (try s o) n m (try_full a d) (try_shut b e) = absurd (e a)
  one_refusal (try s o) n m (try_full a d) (try_full b e) = refl
  one_refusal (strike s o) n m (strike_no_slot a) (strike_no_slot b) = refl
  one_refusal (strike s o) n m (strike_no_slot a) (strike_no_option b e) = absurd (omega arith)
  one_refusal (strike s o) n m (strike_no_slot a) (strike_shut b e) = absurd (omega (arith, b.0))
  one_refusal (strike s o) n m (strike_no_option a d) (strike_no_slot b) = absurd (omega arith)
  one_refusal (strike s o) n m (strike_no_option a d) (strike_no_option b e) = refl
  one_refusal (strike s o) n m (strike_no_option a d) (strike_shut b e) = absurd (omega (arith, b.1))
  one_refusal (strike s o) n m (strike_shut a d) (strike_no_slot b) = absurd (omega (arith, a.0))
  one_refusal (strike s o) n m (strike_shut a d) (strike_no_option b e) = absurd (omega (arith, a.1))
  one_refusal (strike s o) n m (strike_shut a d) (strike_shut b e) = refl
  one_refusal back n m (back_none a) (back_none b) = refl
  one_refusal (look s) n m (look_no_slot a) (look_no_slot b) = refl
  one_refusal (next k) n m (next_short a) (next_short b) = refl
  one_refusal begin n m x y = elim x [ ]
  one_refusal end n m x y = elim x [ ]

  -- a call that is done is not refused
  pub free_try : (s o n : ℕ) → Open P D s o → tries D < 16 → Refuses P D (try s o) n → ⊥
  free_try s o n w t (try_no_slot a) = omega (arith, (open_real P D s o w).0)
  free_try s o n w t (try_no_option a d) = omega (arith, (open_real P D s o w).1)
  free_try s o n w t (try_shut a d) = d w
  free_try s o n w t (try_full a d) = omega arith

  pub free_strike : (s o n : ℕ) → Open P D s o → Refuses P D (strike s o) n → ⊥
  free_strike s o n w (strike_no_slot a) = omega (arith, (open_real P D s o w).0)
  free_strike s o n w (strike_no_option a d) = omega (arith, (open_real P D s o w).1)
  free_strike s o n w (strike_shut a d) = d w

  pub free_back : (n : ℕ) → 0 < tries D → Refuses P D back n → ⊥
  free_back n t (back_none a) = omega arith

  pub free_look : (s n : ℕ) → s < length P.sizes → Refuses P D (look s) n → ⊥
  free_look s n t (look_no_slot a) = omega arith

  pub free_next : (k n : ℕ) → length P.sizes ≤ k → Refuses P D (next k) n → ⊥
  free_next k n t (next_short a) = omega arith

  pub free_begin : (n : ℕ) → Refuses P D begin n → ⊥
  free_begin n r = elim r [ ]

  pub free_end : (n : ℕ) → Refuses P D end n → ⊥
  free_end n r = elim r [ ]

  -- the answer to a call that is refused
  pub refusal : (G : List Plan) (c : Call) (a : Answer) (n : ℕ) → Refuses P D c n → Reckoned P D G c a → a ≡ refused n
  refusal G c a n r (refuses x) = ap refused (one_refusal c _ n x r)
  refusal G c a n r (try_done w t k) = absurd (free_try _ _ n w t r)
  refusal G c a n r (strike_done w k) = absurd (free_strike _ _ n w r)
  refusal G c a n r (back_done t k) = absurd (free_back n t r)
  refusal G c a n r (look_done h b f) = absurd (free_look _ n h r)
  refusal G c a n r begin_done = absurd (free_begin n r)
  refusal G c a n r end_done = absurd (free_end n r)
  refusal G c a n r (next_plan h f) = absurd (free_next _ n h r)
  refusal G c a n r (next_none h f) = absurd (free_next _ n h r)

  pub refused_so : (G : List Plan) (c : Call) (n : ℕ) → Reckoned P D G c (refused n) → Refuses P D c n
  refused_so G c n (refuses x) = x

  -- what stands after a call with its answer
  pub stand_refused : (C : List Call) (c : Call) (n : ℕ) → Standing P C D → Refuses P D c n → Standing P (c ∷ C) D
  stand_refused C c n st r = (D, st, inl (n, r, refl))

  pub stand_decided : (C : List Call) (c : Call) → Standing P C D → ((n : ℕ) → Refuses P D c n → ⊥) → Standing P (c ∷ C) (decided c D)
  stand_decided C c st f = (D, st, inr (f, refl))

then_same : (P : Problem) (D : List Decision) (c : Call) (E F : List Decision) → Then P D c E → Then P D c F → E ≡ F
then_same P D c E F (inl x) (inl y) = x.2 ∙ sym y.2
then_same P D c E F (inl x) (inr y) = absurd (y.0 x.0 x.1)
then_same P D c E F (inr x) (inl y) = absurd (x.0 y.0 y.1)
then_same P D c E F (inr x) (inr y) = x.1 ∙ sym y.1

pub determinate : Determinate
determinate P [] D E a b = a ∙ sym b
determinate P (c ∷ C) D E a b =
    let e : b.0 ≡ a.0 = determinate P C b.0 a.0 b.1 a.1 in
    then_same P a.0 c D E a.2 (subst (λ x. Then P x c E) e b.2)

pub fair : Fair
fair P L e w =
    let j = w.2 in (
      j.0,
      j.1,
      λ n. (
        λ q. refused_so P j.0 (given L) e.call n (subst (Reckoned P j.0 (given L) e.call) q j.2),
        λ r. refusal P j.0 (given L) e.call e.answer n r j.2,
      ),
    )
