-- What an array made by a closure holds. Assumes nothing.
use Rattle.std.proofs.Common.{◌≡◌, ℕ, zero, suc, ◌+◌, ◌<◌, ◌≤◌, List, get_or, sym, subst, ⊎_elim, arith}
use denote.Param.Members.{Mut, Called}
use Rattle.std.specs.Array.{IsFromFnResultFrom}
use Rattle.std.proofs.lemmas.Bool.{cases_eq}

-- each element is as a call at its index gives it, where no call changes the closure
pub made : {F B : Type 0} (g : Mut F (ℕ × Unit {0}) B) (f : F) (R : ℕ → B → Type 0)
    → ((k : ℕ) (y : B) (q : F) → Called g f (k, tt) y q → (q ≡ f) × R k y)
    → (ys : List B) (i n : ℕ) → IsFromFnResultFrom g f ys i n → (k : ℕ) (d : B) → i ≤ k → k < i + n → R k (get_or ys k d)
made g f R one ys i zero h k d low high = absurd (omega arith)
made g f R one ys i (suc n) h k d low high =
    let call = one i h.1 h.0 h.3 in
    ⊎_elim
    (λ e. subst (λ j. R j (get_or ys j d)) (sym e) (subst (R i) (sym (h.2.1 d)) call.1))
    (λ ne. made g f R one ys (i + 1) n (subst (λ q. IsFromFnResultFrom g q ys (i + 1) n) call.0 h.4) k d (omega arith) (omega arith))
    (cases_eq k i)
