-- Rounds of closing lose no supported box. Assumes nothing.
use Rattle.std.proofs.Common.{ℕ, zero, suc, ◌<◌, ◌&&◌, T, eqb, ◌↔◌, List, [], map, length, get_or, sym, ◌∙◌, subst, arith}
use lib.ListN.{length-map}
use Rattle.std.proofs.lemmas.List.{get_or-map}
use Rattle.catalogue.specs.Checks.{has}
use Rattle.subject.specs.Problem.{Problem, Names}
use Rattle.subject.specs.Boxes.{Box, Inside, Fits, Supports}
use Rattle.subject.proofs.Largest.{Left}
use Rattle.examples.proofs.Tests.{below, and_is, eqb_is, implies_is, below_is}
use Rattle.examples.proofs.Reckoner.{Table, opens, supports, supports_at, held, round, rounds}
use Rattle.examples.proofs.Choices.{Picks, list_from, list_to}
use Rattle.examples.proofs.Listed.{listed_is}

-- a list with an option from each slot of a scope is one that fits the box
module _ (B : Table) (scope : List ℕ) where
  abbrev at : ℕ → List ℕ
  at s = get_or B s []

  picks_fits : (l : List ℕ) → Picks (map at scope) l → Fits (opens B) scope l
  picks_fits l p = (
    p.0 ∙ length-map scope at,
    λ i h. subst (λ os. T (has (get_or l i 0) os)) (get_or-map at scope i 0 [] h) (p.1 i (omega (arith, length-map scope at))),
  )

  fits_picks : (l : List ℕ) → Fits (opens B) scope l → Picks (map at scope) l
  fits_picks l f = (
    f.0 ∙ sym (length-map scope at),
    λ i h.
        let k : i < length scope = omega (arith, length-map scope at) in
        subst (λ os. T (has (get_or l i 0) os)) (sym (get_or-map at scope i 0 [] k)) (f.1 i k),
  )

module _ (P : Problem) (B : Table) where
  supports_is : (k i o : ℕ) → T (supports P B k i o) ↔ Supports P (opens B) k i o
  supports_is k i o = (
    λ t.
        let w = list_from (λ l. P.admits k l && eqb (get_or l i 0) o) (map (at B (P.scope k)) (P.scope k)) t in
        let b = (and_is (P.admits k w.0) (eqb (get_or w.0 i 0) o)).0 w.2 in
        (w.0, b.0, picks_fits B (P.scope k) w.0 w.1, (eqb_is (get_or w.0 i 0) o).0 b.1),
    λ w.
        list_to (λ l. P.admits k l && eqb (get_or l i 0) o) (map (at B (P.scope k)) (P.scope k)) w.0 (fits_picks B (P.scope k) w.0 w.2)
        ((and_is (P.admits k w.0) (eqb (get_or w.0 i 0) o)).1 (w.1, (eqb_is (get_or w.0 i 0) o).1 w.3)),
  )

  pub held_is : (s o : ℕ) → T (held P B s o) ↔ ((k i : ℕ) → Names P k i s → Supports P (opens B) k i o)
  unfolding held
  held_is s o =
      let each = λ (k : ℕ). below_is (length (P.scope k)) (supports_at P B s o k) in
      let every = below_is P.sheets (λ k. below (length (P.scope k)) (supports_at P B s o k)) in
      let named = λ (k i : ℕ). eqb_is (get_or (P.scope k) i 0) s in
      let if-named = λ (k i : ℕ). implies_is (eqb (get_or (P.scope k) i 0) s) (supports P B k i o) in (
        λ t k i n. (supports_is k i o).0 ((if-named k i).0 ((each k).0 (every.0 t k n.0) i n.1) ((named k i).1 n.2)),
        λ f. every.1 (λ k h. (each k).1 (λ i j. (if-named k i).1 (λ e. (supports_is k i o).1 (f k i (h, j, (named k i).0 e))))),
      )

supports_inside : (P : Problem) (X Y : Box) → Inside X Y → (k i o : ℕ) → Supports P X k i o → Supports P Y k i o
supports_inside P X Y f k i o w = (w.0, w.1, (w.2.0, λ j h. f _ _ (w.2.1 j h)), w.3)

pub round_left : (P : Problem) (B : Table) → Left P (opens B) (opens (round P B))
unfolding round
round_left P B = (
  λ s o t. ((and_is (opens B s o) (held P B s o)).0 ((listed_is P (λ s o. opens B s o && held P B s o) s o).0 t).1).0,
  λ Z z f s o t.
      (listed_is P (λ s o. opens B s o && held P B s o) s o).1 (
        z.real s o t,
        (and_is (opens B s o) (held P B s o)).1 (f s o t, (held_is P B s o).1 (λ k i n. supports_inside P Z (opens B) f k i o (z.held s o k i t n))),
      ),
)

left_trans : (P : Problem) (X Y Z : Box) → Left P X Y → Left P Y Z → Left P X Z
left_trans P X Y Z a b = (λ s o t. a.0 s o (b.0 s o t), λ W w f. b.1 W w (a.1 W w f))

pub rounds_left : (n : ℕ) (P : Problem) (B : Table) → Left P (opens B) (opens (rounds n P B))
rounds_left zero P B = (λ s o t. t, λ Z z f. f)
rounds_left (suc n) P B = left_trans P (opens B) (opens (round P B)) (opens (rounds (suc n) P B)) (round_left P B) (rounds_left n P (round P B))
