-- That the body of a record that passes its checks is the writing of what it says. Assumes nothing.
use Rattle.std.proofs.Common.{◌≡◌, ℕ, zero, suc, ◌+◌, ◌-◌, ◌*◌, ◌/◌, ◌%◌, ◌^◌, ◌<◌, ◌≤◌, true, leb, List, [], ◌∷◌, ◌++◌, length, get_or, take, drop, replicate, sym, refl, ap, ◌∙◌, subst, ⊎_elim, arith, w16, w32, SFits, to_z, of_z}
use mir.Facts.{sfits_to_z, sfits_lit}
use Rattle.std.proofs.lemmas.Bool.{eqb-true, and_parts, leb-true, cases_lt}
use Rattle.std.proofs.lemmas.List.{take-append-drop, take-take, drop-drop, drop-take, drop_more, drop_all, length-take, length-take-le, length-drop, get_or-take, get_or-drop, get_or_past}
use Rattle.std.proofs.lemmas.Int.{of_z-to_z}
use Rattle.catalogue.specs.declared.make.Make.{Make}
use Rattle.catalogue.specs.declared.make.Make.TheVariants.{Fit, Bar, Load}
use Rattle.catalogue.specs.Content.{place}
use Rattle.catalogue.specs.Records.{between, header_size}
use Rattle.catalogue.specs.Writing.{padded, two_bytes, four_bytes, cap_bytes, head_bytes, row_bytes, weight_bytes}
use Rattle.catalogue.specs.Checks.{all, unused, scope_of, well_sized, well_filled, signed_four, weight_of, cap_of, fresh}
use Rattle.catalogue.specs.Law.{Octets}

-- a part of a list of bytes is one too
pub octets_drop : (n : ℕ) (bs : List ℕ) → Octets bs → Octets (drop n bs)
octets_drop n bs o i = subst (λ x. x < 256) (sym (get_or-drop n bs i 0)) (o (n + i))

pub octets_take : (n : ℕ) (bs : List ℕ) → Octets bs → Octets (take n bs)
octets_take n bs o i =
    ⊎_elim
    (λ low. subst (λ x. x < 256) (sym (get_or-take n bs i 0 low)) (o i))
    (λ high. subst (λ x. x < 256) (sym (get_or_past (take n bs) i 0 (omega (arith, length-take n bs)))) (omega arith))
    (cases_lt i n)

pub octets_cons : (x : ℕ) (xs : List ℕ) → x < 256 → Octets xs → Octets (x ∷ xs)
octets_cons x xs h o zero = h
octets_cons x xs h o (suc i) = o i

-- A signed number that was read is written as the bytes that it was read from.
two_written : (a b : ℕ) → a < 256 → b < 256 → two_bytes (to_z w16 (a + b * 256)) ≡ a ∷ b ∷ []
two_written a b p q =
    let n : of_z w16 (to_z w16 (a + b * 256)) ≡ a + b * 256 = of_z-to_z w16 (a + b * 256) (omega arith) in
    let x : of_z w16 (to_z w16 (a + b * 256)) % 256 ≡ a = ap (λ m. m % 256) n ∙ omega arith in
    let y : of_z w16 (to_z w16 (a + b * 256)) / 256 ≡ b = ap (λ m. m / 256) n ∙ omega arith in
    cc

four_fits : (a b c d : ℕ) → a < 256 → b < 256 → c < 256 → d < 256 → a + b * 256 + c * 65536 + d * 16777216 < 2 ^ 32
four_fits a b c d p q r s = omega arith

four_written : (a b c d : ℕ) → a < 256 → b < 256 → c < 256 → d < 256 → four_bytes (to_z w32 (a + b * 256 + c * 65536 + d * 16777216)) ≡ a ∷ b ∷ c ∷ d ∷ []
four_written a b c d p q r s =
    let m = a + b * 256 + c * 65536 + d * 16777216 in
    let n = of_z w32 (to_z w32 m) in
    let is : n ≡ m = of_z-to_z w32 m (four_fits a b c d p q r s) in
    let rest : n / 256 ≡ b + c * 256 + d * 65536 = omega arith in
    let upper : n / 65536 ≡ c + d * 256 = omega arith in
    let v : n % 256 ≡ a = omega arith in
    let w : n / 256 % 256 ≡ b = ap (λ i. i % 256) rest ∙ omega arith in
    let x : n / 65536 % 256 ≡ c = ap (λ i. i % 256) upper ∙ omega arith in
    let y : n / 16777216 ≡ d = omega arith in
    cc

signed_fits : (n : ℕ) → n < 2 ^ 32 → SFits w32 (to_z w32 n)
signed_fits n h = sfits_to_z (record { fits = h })

-- what holds of any four numbers holds of a list of length 4
by_four : (P : List ℕ → Type 0) → ((v w x y : ℕ) → P (v ∷ w ∷ x ∷ y ∷ [])) → (b : List ℕ) → length b ≡ 4 → P b
by_four P f [] e = absurd (omega arith)
by_four P f (v ∷ []) e = absurd (omega arith)
by_four P f (v ∷ w ∷ []) e = absurd (omega arith)
by_four P f (v ∷ w ∷ x ∷ []) e = absurd (omega arith)
by_four P f (v ∷ w ∷ x ∷ y ∷ []) e = f v w x y
by_four P f (v ∷ w ∷ x ∷ y ∷ z ∷ zs) e = absurd (omega arith)

cap_written : (b : List ℕ) → length b ≡ 4 → Octets b → four_bytes (signed_four b) ≡ b
cap_written b long o =
    by_four (λ l. Octets l → four_bytes (signed_four l) ≡ l) (λ v w x y p. four_written v w x y (p 0) (p 1) (p 2) (p 3)) b long o

-- the cap of a header fits, whatever its bytes are
pub cap_fits : (m : Make) (b : List ℕ) → Octets b → SFits w32 (cap_of m b)
cap_fits Fit b o = sfits_lit tt
cap_fits Bar b o = sfits_lit tt
cap_fits Load b o =
    let p = octets_drop 9 b o in
    signed_fits _ (four_fits (get_or (drop 9 b) 0 0) (get_or (drop 9 b) 1 0) (get_or (drop 9 b) 2 0) (get_or (drop 9 b) 3 0) (p 0) (p 1) (p 2) (p 3))

-- A weight's body is written back.
pub weight_written : (b : List ℕ) → length b ≡ 4 → Octets b → weight_bytes (weight_of b) ≡ 6 ∷ b
weight_written b long o =
    by_four (λ l. Octets l → weight_bytes (weight_of l) ≡ 6 ∷ l) (λ v w x y p. ap (λ l. 6 ∷ v ∷ w ∷ l) (two_written x y (p 2) (p 3))) b long o

-- what a weight is of stands in its first two bytes
pub place_back : (b : List ℕ) → length b ≡ 4 → take 2 b ≡ place (weight_of b)
place_back b long = by_four (λ l. take 2 l ≡ place (weight_of l)) (λ v w x y. refl) b long

-- bytes that are not used
unused_are : (xs : List ℕ) → all unused xs ≡ true → xs ≡ replicate (length xs) 255
unused_are [] e = refl
unused_are (x ∷ xs) e =
    let p = and_parts (unused x) (all unused xs) e in
    let first = eqb-true x 255 p.0 in
    let rest = unused_are xs p.1 in
    cc

-- Eight bytes with none used behind the first k are those k, padded.
pub padded_front : (k : ℕ) (xs : List ℕ) → length xs ≡ 8 → k ≤ 8 → all unused (drop k xs) ≡ true → padded (take k xs) ≡ xs
padded_front k xs eight few e =
    let long = length-take-le k xs (omega arith) in
    let left : length (drop k xs) ≡ 8 - length (take k xs) = length-drop k xs ∙ omega arith in
    ap (λ n. take k xs ++ replicate n 255) (sym left) ∙ ap (λ l. take k xs ++ l) (sym (unused_are (drop k xs) e)) ∙ take-append-drop k xs

-- A row's body is written back.
fill_rest : (os ss xs : List ℕ) → well_filled os ss xs ≡ true → all unused (drop (length ss) xs) ≡ true
fill_rest os [] xs e = e
fill_rest os (s ∷ ss) [] e = refl
fill_rest os (s ∷ ss) (x ∷ xs) e = fill_rest os ss xs (and_parts _ _ e).1

pub row_written : (os ss b : List ℕ) → length b ≡ 8 → length ss ≤ 8 → well_filled os ss b ≡ true → row_bytes (take (length ss) b) ≡ 5 ∷ b
row_written os ss b eight few e = ap (λ l. 5 ∷ l) (padded_front (length ss) b eight few (fill_rest os ss b e))

-- what the size of a header's scope is
pub record Sizes (b : List ℕ) : Type 0 where
  pub low : 1 ≤ get_or b 0 0
  pub high : get_or b 0 0 ≤ 8
  pub rest : all unused (take (8 - get_or b 0 0) (drop (1 + get_or b 0 0) b)) ≡ true
  pub long : length (scope_of b) ≡ get_or b 0 0

pub sizes : (b : List ℕ) → 9 ≤ length b → well_sized b ≡ true → Sizes b
sizes b nine e =
    let k = get_or b 0 0 in
    let p = and_parts (between 1 8 k) _ e in
    let q = and_parts (leb 1 k) (leb k 8) p.0 in
    let high = leb-true k 8 q.1 in
    record { low = leb-true 1 k q.0; high = high; rest = p.1; long = length-take-le k (drop 1 b) (omega (arith, length-drop 1 b)) }

-- the cap's bytes stand behind the scope
cap_behind : (m : Make) (b : List ℕ) → length b + 1 ≡ header_size m → Octets b → cap_bytes m (cap_of m b) ≡ drop 9 b
cap_behind Fit b long o = sym (drop_all 9 b (omega arith))
cap_behind Bar b long o = sym (drop_all 9 b (omega arith))
cap_behind Load b long o = cap_written (drop 9 b) (omega (arith, length-drop 9 b)) (octets_drop 9 b o)

-- the eight bytes of a header's scope
scope_written : (b : List ℕ) → 9 ≤ length b → well_sized b ≡ true → padded (scope_of b) ≡ take 8 (drop 1 b)
scope_written b nine e =
    let k = get_or b 0 0 in
    let z = sizes b nine e in
    let xs = take 8 (drop 1 b) in
    let eight : length xs ≡ 8 = length-take-le 8 (drop 1 b) (omega (arith, length-drop 1 b)) in
    let front : take k xs ≡ scope_of b = take-take k 8 (drop 1 b) z.high in
    let sum : k + (8 - k) ≡ 8 = omega (arith, z.high) in
    let behind : drop k xs ≡ take (8 - k) (drop (1 + k) b) = ap (λ n. drop k (take n (drop 1 b))) (sym sum) ∙ drop-take k (8 - k) (drop 1 b) ∙ ap (take (8 - k)) (drop-drop k 1 b) in
    ap padded (sym front) ∙ padded_front k xs eight z.high (ap (all unused) behind ∙ z.rest)

-- a header's body has nine bytes or more
pub header_long : (m : Make) (n : ℕ) → n + 1 ≡ header_size m → 9 ≤ n
header_long Fit n e = omega arith
header_long Bar n e = omega arith
header_long Load n e = omega arith

-- A header's body is written back, of any make.
pub header_written : (m : Make) (b : List ℕ) → length b + 1 ≡ header_size m → Octets b → well_sized b ≡ true → head_bytes (fresh m b) ≡ b
header_written m b long o e =
    let nine = header_long m (length b) long in
    let z = sizes b nine e in
    ap (λ n. n ∷ padded (scope_of b) ++ cap_bytes m (cap_of m b)) z.long ∙ ap (λ l. get_or b 0 0 ∷ l ++ cap_bytes m (cap_of m b)) (scope_written b nine e) ∙ ap (λ l. get_or b 0 0 ∷ take 8 (drop 1 b) ++ l) (cap_behind m b long o ∙ sym (drop-drop 8 1 b)) ∙ ap (λ l. get_or b 0 0 ∷ l) (take-append-drop 8 (drop 1 b)) ∙ sym (drop_more b 0 0 (omega arith))
