-- Bits of numbers. Assumes nothing.
use Rattle.std.proofs.Common.{◌≡◌, ℕ, zero, suc, ◌-◌, ◌/◌, ◌%◌, ◌^◌, ◌<◌, ◌≤◌, ◌↔◌, refl, ap, pow-suc, div-one, one-add, arith, pow_mono}
use native.Mathlib.Decide.{dec_lt, ℕ_discrete}
use Rattle.subject.specs.Logs.{Bit}
use Rattle.std.proofs.lemmas.Nat.{shr-shr, pow_pos}

pub half_bit : (m o : ℕ) → (m / 2) / 2 ^ o ≡ m / 2 ^ suc o
half_bit m o = rw (← one-add o) (shr-shr m 1 o)

pub low : (m : ℕ) → Bit m 0 ↔ (m % 2 ≡ 1)
low m = (λ b. rw div-one at b, λ b. rw div-one b)

parity : (a b : ℕ) → a < 2 → b < 2 → (a ≡ 1 → b ≡ 1) → (b ≡ 1 → a ≡ 1) → a ≡ b
parity a b ha hb f g = grind (arith)

-- numbers with the same bits are equal
pub same_bits : (w m n : ℕ) → m < 2 ^ w → n < 2 ^ w → ((o : ℕ) → Bit m o ↔ Bit n o) → m ≡ n
same_bits zero m n hm hn f = omega arith
same_bits (suc w) m n hm hn f =
    let e : m / 2 ≡ n / 2 = same_bits w (m / 2) (n / 2) (omega (arith, pow-suc 2 w)) (omega (arith, pow-suc 2 w)) (λ o. rw (half_bit m o, half_bit n o) (f (suc o))) in
    let a : m % 2 ≡ 1 → n % 2 ≡ 1 = λ h. (low n).0 ((f 0).0 ((low m).1 h)) in
    let b : n % 2 ≡ 1 → m % 2 ≡ 1 = λ h. (low m).0 ((f 0).1 ((low n).1 h)) in
    let c : m % 2 ≡ n % 2 = parity (m % 2) (n % 2) (omega arith) (omega arith) a b in
    omega arith

pub high : (m p : ℕ) → Bit (m / 2) p ↔ Bit m (suc p)
high m p = (λ b. rw (← half_bit m p) b, λ b. rw (half_bit m p) b)

pub set_le : (m o : ℕ) → Bit m o → 2 ^ o ≤ m
set_le m zero b = let k = (low m).0 b in omega arith
set_le m (suc o) b = let k = set_le (m / 2) o ((high m o).1 b) in omega (arith, pow-suc 2 o)

-- a number of w bits has no bit past them
pub small_bit : (w m o : ℕ) → m < 2 ^ w → Bit m o → o < w
small_bit w m o h b = go (dec_lt o w)
  where
    go : Dec (o < w) → o < w
    go (yes k) = k
    go (no k) = let l : w ≤ o = omega (arith, k) in absurd (omega (arith, pow_mono l, set_le m o b))

-- the bits of a power
pub one_bit : (o p : ℕ) → Bit (2 ^ o) p ↔ (p ≡ o)
one_bit zero zero = (λ b. refl, λ e. refl)
one_bit zero (suc p) =
    (λ b. let k = small_bit 1 1 (suc p) (omega arith) b in absurd (omega arith), λ e. absurd (omega (arith, e)))
one_bit (suc o) zero = (λ b. let k = (low (2 ^ suc o)).0 b in absurd (omega (arith, pow-suc 2 o)), λ e. absurd (omega (arith, e)))
one_bit (suc o) (suc p) =
    let e : 2 ^ suc o / 2 ≡ 2 ^ o = omega (arith, pow-suc 2 o) in
    let i = one_bit o p in
    (λ b. ap suc (i.0 (rw (← e) ((high (2 ^ suc o) p).1 b))), λ q. (high (2 ^ suc o) p).0 (rw e (i.1 (omega (arith, q)))))

-- the bits of a number of ones
pub ones_bit : (w o : ℕ) → o < w → Bit (2 ^ w - 1) o
ones_bit zero o h = absurd (omega arith)
ones_bit (suc w) zero h = (low (2 ^ suc w - 1)).1 (omega (arith, pow-suc 2 w, pow_pos w))
ones_bit (suc w) (suc o) h =
    let e : (2 ^ suc w - 1) / 2 ≡ 2 ^ w - 1 = omega (arith, pow-suc 2 w, pow_pos w) in
    (high (2 ^ suc w - 1) o).0 (rw e (ones_bit w o (omega arith)))

-- a number that is not zero has a bit
pub some_bit : (k m : ℕ) → m ≤ k → (m ≡ 0 → ⊥) → (o : ℕ) × Bit m o
some_bit zero m h f = absurd (f (omega arith))
some_bit (suc k) m h f = go (λ z. some_bit k (m / 2) (omega arith) z) (ℕ_discrete (m % 2) 1)
  where
    go : ((m / 2 ≡ 0 → ⊥) → (o : ℕ) × Bit (m / 2) o) → Dec (m % 2 ≡ 1) → (o : ℕ) × Bit m o
    go rest (yes e) = (0, (low m).1 e)
    go rest (no ne) = let i = rest (λ z. f (omega (arith, ne))) in (suc i.0, (high m i.0).0 i.1)
