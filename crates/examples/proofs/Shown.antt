-- Looks show what the reckoner leaves open. Assumes nothing.
use Rattle.std.proofs.Common.{ℕ, ◌^◌, ◌<◌, true, cond, ◌&&◌, T, eqb, ltb, ◌↔◌, List, [], length, get_or}
use Rattle.catalogue.specs.Checks.{all, has}
use Rattle.subject.specs.Problem.{Problem}
use Rattle.subject.specs.Decisions.{Decision, Largest}
use Rattle.subject.specs.Logs.{Bit}
use Rattle.subject.proofs.Bits.{small_bit}
use Rattle.examples.specs.Claims.{Looks}
use Rattle.examples.proofs.Tests.{below, and_is, eqb_is, ltb_is, implies_is, below_is}
use Rattle.examples.proofs.Reckoner.{Table, opens, bit, shows, looks}
use Rattle.examples.proofs.Choices.{all_has}

pub shows_is : (os : List ℕ) (m : ℕ) → T (shows os m) → (m < 2 ^ 32) × ((o : ℕ) → Bit m o ↔ T (has o os))
unfolding shows
shows_is os m t =
    let a = (and_is (ltb m (2 ^ 32)) (all (bit m) os && below 32 (λ o. cond (bit m o) (has o os) true))).0 t in
    let b = (and_is (all (bit m) os) (below 32 (λ o. cond (bit m o) (has o os) true))).0 a.1 in
    let small : m < 2 ^ 32 = (ltb_is m (2 ^ 32)).0 a.0 in (
      small,
      λ o. (
        λ h. (implies_is (bit m o) (has o os)).0 ((below_is 32 (λ z. cond (bit m z) (has z os) true)).0 b.1 o (small_bit 32 m o small h)) ((eqb_is _ 1).1 h),
        λ h. (eqb_is _ 1).0 (all_has (bit m) os b.0 o h),
      ),
    )

pub looks_are : (P : Problem) (D : List Decision) (B : Table) (shown : List ℕ) → Largest P D (opens B) → T (looks P B shown) → Looks P D shown
unfolding looks
looks_are P D B shown big t =
    let a = (and_is (eqb (length shown) (length P.sizes)) (below (length P.sizes) (λ s. shows (get_or B s []) (get_or shown s 0)))).0 t in
    record {
      long = (eqb_is (length shown) (length P.sizes)).0 a.0;
      shows = λ s h.
          let w = shows_is (get_or B s []) (get_or shown s 0) ((below_is (length P.sizes) (λ z. shows (get_or B z []) (get_or shown z 0))).0 a.1 s h) in
          (w.0, λ o. (λ b. (big s o).0 ((w.1 o).0 b), λ k. (w.1 o).1 ((big s o).1 k)));
    }
