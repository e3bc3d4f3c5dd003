-- Slots that each have an open option. Assumes nothing.
use Rattle.std.proofs.Common.{◌≡◌, ℕ, ◌<◌, Bool, true, false, List, length, get_or, Decides, MatchBool, refl, sym, subst, arith}
use Rattle.std.specs.List.{range_with_len, AllWithin, HoldsAt}
use Rattle.std.proofs.lemmas.Bool.{false≢true}
use Rattle.std.proofs.lemmas.List.FromFn.{length-range_with_len, get_or-range_with_len}
use Rattle.boxes.specs.Boxes.{Some}
use Rattle.settle.specs.Settled.{Alive}

numbered : (n s : ℕ) → s < n → get_or (range_with_len 0 n) s 0 ≡ s
numbered n s h = omega (arith, get_or-range_with_len 0 n s 0 h)

-- the answer of a test of the slots in turn
pub alive_is : (b : List ℕ) (n : ℕ) (r : Bool)
    → MatchBool r (AllWithin (Some b) (range_with_len 0 n) 0 (length (range_with_len 0 n))) ((k : ℕ) × (k < length (range_with_len 0 n)) × HoldsAt (λ s. Some b s → ⊥) (range_with_len 0 n) k)
    → Decides r (Alive b n)
alive_is b n true h = (λ _. record { each = λ s lt. subst (Some b) (numbered n s lt) (h s 0 (omega arith) (omega (arith, length-range_with_len 0 n))) }, λ _. refl)
alive_is b n false h = (
  λ e. absurd (false≢true e),
  λ a.
      let lt : h.0 < n = omega (arith, h.1, length-range_with_len 0 n) in
      absurd (h.2 0 (subst (Some b) (sym (numbered n h.0 lt)) (a.each h.0 lt))),
)
