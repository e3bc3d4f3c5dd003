-- Where the rounds came to an end, what the reckoner leaves open is what is open. Assumes nothing.
use Rattle.std.proofs.Common.{◌≡◌, ℕ, ◌<◌, Bool, true, false, cond, not, ◌&&◌, T, eqb, ltb, ◌↔◌, List, [], ◌∷◌, length, get_or, sym, refl, subst}
use Rattle.catalogue.specs.Checks.{all, has}
use Rattle.subject.specs.Problem.{Problem, Real, Placed}
use Rattle.subject.specs.Boxes.{Box, Supported, LargestIn}
use Rattle.subject.specs.Decisions.{Decision, tried, struck, Forbids, Allowed, Largest}
use Rattle.subject.proofs.Largest.{Left, all_held, none_held}
use Rattle.examples.proofs.Tests.{below, and_is, or_left, eqb_is, ltb_is, not_is, below_is, below_fails}
use Rattle.examples.proofs.Reckoner.{Table, opens, listed, held, forbids, allows, total, closed, some, alive, placed, stable, upheld, settled, ended, finished}
use Rattle.examples.proofs.Choices.{all_has}
use Rattle.examples.proofs.Listed.{listed_is}
use Rattle.examples.proofs.Rounds.{held_is, rounds_left}

forbids_is : (d : Decision) (s o : ℕ) → T (forbids d s o) ↔ Forbids d s o
forbids_is (tried a b) s o =
    let h = and_is (eqb s a) (not (eqb o b)) in (
      λ t. ((eqb_is s a).0 (h.0 t).0, λ e. (not_is (eqb o b)).0 (h.0 t).1 ((eqb_is o b).1 e)),
      λ f. h.1 ((eqb_is s a).1 f.0, (not_is (eqb o b)).1 (λ t. f.1 ((eqb_is o b).0 t))),
    )
forbids_is (struck a b) s o =
    let h = and_is (eqb s a) (eqb o b) in
    (λ t. ((eqb_is s a).0 (h.0 t).0, (eqb_is o b).0 (h.0 t).1), λ f. h.1 ((eqb_is s a).1 f.0, (eqb_is o b).1 f.1))

pub allows_is : (D : List Decision) (s o : ℕ) → T (allows D s o) ↔ Allowed D s o
allows_is [] s o = (λ t. tt, λ a. tt)
allows_is (d ∷ D) s o =
    let h = and_is (not (forbids d s o)) (allows D s o) in
    let f = forbids_is d s o in (
      λ t. (λ x. (not_is (forbids d s o)).0 (h.0 t).0 (f.1 x), (allows_is D s o).0 (h.0 t).1),
      λ a. h.1 ((not_is (forbids d s o)).1 (λ x. a.0 (f.0 x)), (allows_is D s o).1 a.1),
    )

pub placed_is : (P : Problem) → T (placed P) ↔ Placed P
unfolding placed
placed_is P =
    let one = λ (k i : ℕ). ltb (get_or (P.scope k) i 0) (length P.sizes) in
    let each = λ (k : ℕ). below_is (length (P.scope k)) (one k) in
    let every = below_is P.sheets (λ k. below (length (P.scope k)) (one k)) in
    let at = λ (k i : ℕ). ltb_is (get_or (P.scope k) i 0) (length P.sizes) in (
      λ t k i s n. subst (λ x. x < length P.sizes) n.2 ((at k i).0 ((each k).0 (every.0 t k n.0) i n.1)),
      λ f. every.1 (λ k h. (each k).1 (λ i j. (at k i).1 (f k i (get_or (P.scope k) i 0) (h, j, refl)))),
    )

some_open : (os : List ℕ) → T (some os) → (o : ℕ) × T (has o os)
some_open [] t = absurd t
some_open (x ∷ os) t = (x, or_left (eqb x x) (has x os) ((eqb_is x x).1 refl))

none_open : (os : List ℕ) → (T (some os) → ⊥) → (o : ℕ) → T (has o os) → ⊥
none_open [] f o h = h
none_open (x ∷ os) f o h = f tt

module _ (P : Problem) (B : Table) where
  upheld_largest : (X : Box) → Left P X (opens B) → ((s o : ℕ) → T (opens B s o) → Real P s o) → T (ended P B) → LargestIn P X (opens (upheld P B))
  unfolding alive stable
  upheld_largest X l r e = go (alive P B) refl e
    where
      supported : T (alive P B) → T (placed P && stable P B) → Supported P (opens B)
      supported a t =
          let b = (and_is (placed P) (stable P B)).0 t in
          record {
            placed = (placed_is P).0 b.0;
            real = r;
            alive = λ s h. some_open (get_or B s []) ((below_is (length P.sizes) (λ z. some (get_or B z []))).0 a s h);
            held = λ s o k i h n.
                let all = (below_is (length P.sizes) (λ z. all (held P B z) (get_or B z []))).0 b.1 s (r s o h).0 in
                (held_is P B s o).0 (all_has (held P B s) (get_or B s []) all o h) k i n;
          }

      none : (T (alive P B) → ⊥) → LargestIn P X (opens [])
      none a =
          let w = below_fails (length P.sizes) (λ z. some (get_or B z [])) a in
          none_held P X (opens B) (opens []) w.0 l w.1 (none_open (get_or B w.0 []) w.2) (λ t p u. u)

      go : (b : Bool) → alive P B ≡ b → T (cond b (placed P && stable P B) true) → LargestIn P X (opens (cond b B []))
      go true a t = all_held P X (opens B) l (supported (subst T (sym a) tt) t)
      go false a t = none (λ u. subst T a u)

pub settled_largest : (P : Problem) (D : List Decision) → T (finished P D) → Largest P D (opens (settled P D))
unfolding finished settled closed
settled_largest P D t s o =
    let full = listed (allows D) 0 P.sizes in
    let is = listed_is P (allows D) in
    let l : Left P (opens full) (opens (closed P D)) = rounds_left (total P.sizes) P full in
    let big = upheld_largest P (closed P D) (opens full) l (λ u p k. ((is u p).0 (l.0 u p k)).0) t s o in (
      λ h. let y = big.0 h in (y.0, y.1, (λ u p k. (allows_is D u p).0 ((is u p).0 (y.2 u p k)).1), y.3),
      λ w. big.1 (w.0, w.1, (λ u p k. (is u p).1 (w.1.real u p k, (allows_is D u p).1 (w.2 u p k))), w.3),
    )
