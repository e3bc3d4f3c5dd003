-- What the reckoner makes of calls: their log is lawful, and the decisions that it comes to stand. Assumes nothing.
use Rattle.std.proofs.Common.{◌≡◌, ℕ, ◌≤◌, Bool, true, false, not, ◌&&◌, ◌||◌, T, ◌⊎◌, ◌↔◌, List, [], ◌∷◌, length, get_or, sym, refl, ap, subst, inl, inr}
use mathlib.Core.Bool.{beq}
use Rattle.catalogue.specs.Checks.{same}
use Rattle.subject.specs.Problem.{Problem}
use Rattle.subject.specs.Boxes.{opened}
use Rattle.subject.specs.Decisions.{Decision, tried, struck, OpenCount, Largest, undone}
use Rattle.subject.specs.Plans.{Plan, Meets, Before, Behind}
use Rattle.subject.specs.Logs.{Call, try, strike, back, begin, end, look, next, Answer, calls, decided, walking, given, Standing, Reckoned}
use Rattle.subject.specs.Logs.{refuses, try_done, strike_done, back_done, look_done, begin_done, end_done, next_plan, next_none}
use Rattle.subject.specs.Law.{Lawful, inside}
use Rattle.subject.proofs.Standing.{stand_refused, stand_decided}
use Rattle.examples.proofs.Tests.{and_is, or_is}
use Rattle.examples.proofs.Reckoner.{opens, settled, finished}
use Rattle.examples.proofs.Finding.{meets, no_plan, before, behind, left, next_of, is_next}
use Rattle.examples.proofs.Answering.{mask, refusal, reply, answer, checked, Course, onward, step, course}
use Rattle.examples.proofs.Settled.{settled_largest}
use Rattle.examples.proofs.Shown.{shows_is}
use Rattle.examples.proofs.Meeting.{meets_is, no_plan_lem, before_is, same_is}
use Rattle.examples.proofs.Refusing.{Possible, possible_free, Ruled, free, barred, ruled}

behind_is : (G : List Plan) (p : Plan) → T (behind G p) ↔ Behind G p
behind_is [] p = (λ t. tt, λ b. tt)
behind_is (g ∷ G) p =
    let a = and_is (before g p) (behind G p) in
    let b = before_is g p in
    let r = behind_is G p in
    (λ t. (b.0 (a.0 t).0, r.0 (a.0 t).1), λ h. a.1 (b.1 h.0, r.1 h.1))

module _ (P : Problem) (D : List Decision) (G : List Plan) where
  next_is : (n : ℕ) (ps : List Plan) → length P.sizes ≤ n → T (is_next P D G ps) → Reckoned P D G (next n) (next_of ps)
  next_is n [] h t = next_none h (λ q m b. no_plan_lem P D (behind G) t q m ((behind_is G q).1 b))
  next_is n (p ∷ ps) h t =
      let a = (and_is (meets P D p) (behind G p && no_plan P D (λ q. behind G q && not (same p q || before p q)))).0 t in
      let b = (and_is (behind G p) (no_plan P D (λ q. behind G q && not (same p q || before p q)))).0 a.1 in
      next_plan h (record { meets = (meets_is P D p).0 a.0; behind = (behind_is G p).0 b.0; least = least b.1 })
    where
      decide : (q : Plan) (b : Bool) → (T b → (p ≡ q) ⊎ Before p q) → (T (not b) → ⊥) → (p ≡ q) ⊎ Before p q
      decide q true f g = f tt
      decide q false f g = absurd (g tt)

      least : T (no_plan P D (λ q. behind G q && not (same p q || before p q))) → (q : Plan) → Meets P D q → Behind G q → (p ≡ q) ⊎ Before p q
      least u q m b =
          decide q (same p q || before p q)
          (λ v. elim ((or_is (same p q) (before p q)).0 v) [ inl e ↦ inl (same_is p q e) | inr e ↦ inr ((before_is p q).0 e) ])
          (λ v. no_plan_lem P D (λ z. behind G z && not (same p z || before p z)) u q m ((and_is (behind G q) (not (same p q || before p q))).1 ((behind_is G q).1 b, v)))

  -- a refusal is the answer, or the call is possible
  replied : (c : Call) (a : Answer) (n : ℕ) → Ruled P D c n → (Possible P D c → Reckoned P D G c a) → Reckoned P D G c (reply n a)
  replied c a n (free p) f = f p
  replied c a n (barred r) f = refuses r

  answered : T (finished P D) → (c : Call) → T (finished P (decided c D)) → T (checked P D G c) → Reckoned P D G c (answer P D G c)
  unfolding answer checked
  answered t c u v = go c u v (ruled P D big)
    where
      big : Largest P D (opens (settled P D))
      big = settled_largest P D t

      counts : (E : List Decision) → T (finished P E) → OpenCount P E (opened (opens (settled P E)))
      counts E w = (opens (settled P E), settled_largest P E w, refl)

      go : (d : Call) → T (finished P (decided d D)) → T (checked P D G d) → ((e : Call) → Ruled P D e (refusal P D e)) → Reckoned P D G d (answer P D G d)
      go (try s o) w k r = replied (try s o) _ _ (r (try s o)) (λ p. try_done p.0 p.1 (counts (tried s o ∷ D) w))
      go (strike s o) w k r = replied (strike s o) _ _ (r (strike s o)) (λ p. strike_done p (counts (struck s o ∷ D) w))
      go back w k r = replied back _ _ (r back) (λ p. back_done p (counts (undone D) w))
      go begin w k r = begin_done
      go end w k r = end_done
      go (look s) w k r =
          let m = shows_is (get_or (settled P D) s []) (mask (get_or (settled P D) s [])) k in
          replied (look s) _ _ (r (look s)) (λ p. look_done p m.0 (λ o. (λ b. (big s o).0 ((m.1 o).0 b), λ x. (m.1 o).1 ((big s o).1 x))))
      go (next n) w k r = replied (next n) _ _ (r (next n)) (λ p. next_is n (left P D G) p k)

-- what stands after one more call
onward_stands : (P : Problem) (D : List Decision) (C : List Call) (c : Call) (n : ℕ) → Ruled P D c n → Standing P C D → Standing P (c ∷ C) (onward n c D)
onward_stands P D C c n (free p) st = stand_decided P D C c st (possible_free P D c p)
onward_stands P D C c n (barred r) st = stand_refused P D C c _ st r

same_bool : (a b : Bool) → T (beq a b) → a ≡ b
same_bool true true t = refl
same_bool true false t = absurd t
same_bool false true t = absurd t
same_bool false false t = refl

pub record Kept (P : Problem) (C : List Call) (r : Course) : Type 0 where
  pub made : calls r.log ≡ C
  pub standing : Standing P C r.decisions
  pub lawful : Lawful P r.log

step_kept : (P : Problem) (c : Call) (C : List Call) (r : Course) → (T r.sure → Kept P C r) → T (step P c r).sure → Kept P (c ∷ C) (step P c r)
unfolding step
step_kept P c C r ih t =
    let D : List Decision = r.decisions in
    let G : List Plan = given r.log in
    let fresh = finished P (decided c D) && checked P D G c in
    let a = (and_is r.sure (beq (walking r.log) (inside c) && (finished P D && fresh))).0 t in
    let b = (and_is (beq (walking r.log) (inside c)) (finished P D && fresh)).0 a.1 in
    let d = (and_is (finished P D) fresh).0 b.1 in
    let e = (and_is (finished P (decided c D)) (checked P D G c)).0 d.1 in
    let k = ih a.0 in
    record {
      made = ap (λ X. c ∷ X) k.made;
      standing = onward_stands P D C c (refusal P D c) (ruled P D (settled_largest P D d.0) c) k.standing;
      lawful = (
        k.lawful,
        same_bool (walking r.log) (inside c) b.0,
        (D, subst (λ X. Standing P X D) (sym k.made) k.standing, answered P D G d.0 c e.0 e.1),
      );
    }

pub course_kept : (P : Problem) (C : List Call) → T (course P C).sure → Kept P C (course P C)
course_kept P [] t = record { made = refl; standing = refl; lawful = tt }
course_kept P (c ∷ C) t = step_kept P c C (course P C) (course_kept P C) t
