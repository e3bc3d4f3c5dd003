-- How what a line writes is read. Assumes nothing.
use Rattle.std.proofs.Common.{◌≡◌, ℕ, suc, ◌+◌, ◌-◌, ◌*◌, ◌≤◌, cond, eqb, ◌⊎◌, List, [], ◌∷◌, ◌++◌, length, take, drop, Some, None, Option, sym, refl, ap, ◌∙◌, subst, inl, inr, ⊎_elim, arith}
use Rattle.std.specs.List.{AllByRecursion}
use Rattle.std.specs.Option.{option_map, option_zip}
use Rattle.std.specs.Int.{IsInRange}
use Rattle.std.proofs.lemmas.List.{take-append-drop, take_at, drop_at, take_rest}
use Rattle.std.proofs.lemmas.Bool.{cond-true, cond-false}
use Rattle.std.proofs.lemmas.Bool.Decides.{nat_tests, eqb_tells}
use Rattle.subject.specs.declared.call.Call.{Call}
use Rattle.subject.specs.declared.call.Call.TheVariants.{Try, Strike, Back, Look, Begin, Next, End}
use Rattle.commands.specs.Places.{ahead}
use Rattle.commands.specs.Parsing.{three_digits, number_in, one_in, second_at, two_in, alone_in, call_by, call_of}
use Rattle.commands.specs.Writing.{amount, Field, Writes, Reads}

-- the two parts that are read, as slices
module _ (bs : List ℕ) (n : ℕ) (is : n ≡ ahead 32 (take (length bs - 1) (drop 1 bs))) where
  at_second : 1 + n ≡ second_at bs
  at_second = omega (arith, is ∙ ap (ahead 32) (take_rest bs 1))

  pub first_part : one_in (take (1 + n - 0) bs) ≡ one_in (take (second_at bs) bs)
  first_part = let same : 1 + n - 0 ≡ second_at bs = omega (arith, at_second) in ap (λ k. one_in (take k bs)) same

  pub second_part : one_in (take (length bs - (1 + n)) (drop (1 + n) bs)) ≡ one_in (drop (second_at bs) bs)
  second_part = ap one_in (take_rest bs (1 + n)) ∙ ap (λ k. one_in (drop k bs)) at_second

-- digits
three_sound : (a b c n : ℕ) → three_digits a b c ≡ Some n → (IsInRange 48 57 a × IsInRange 48 57 b × IsInRange 48 57 c) × (100 * (a - 48) + (10 * (b - 48) + (c - 48)) ≡ n)
three_sound a b c n e = grind (arith, nat_tests)

three_complete : (a b c n : ℕ) → IsInRange 48 57 a → IsInRange 48 57 b → IsInRange 48 57 c → 100 * (a - 48) + (10 * (b - 48) + (c - 48)) ≡ n → three_digits a b c ≡ Some n
three_complete a b c n ha hb hc e = grind (arith, nat_tests)

-- a number
number_sound : (ds : List ℕ) (n : ℕ) → number_in ds ≡ Some n → (1 ≤ length ds) × (length ds ≤ 3) × AllByRecursion (IsInRange 48 57) ds × (amount 0 ds ≡ n)
number_sound [] n e = absurd (grind arith)
number_sound (a ∷ []) n e = let k = three_sound 48 48 a n e in (omega arith, omega arith, (k.0.2, tt), omega (arith, k.1))
number_sound (a ∷ b ∷ []) n e = let k = three_sound 48 a b n e in (omega arith, omega arith, (k.0.1, (k.0.2, tt)), omega (arith, k.1))
number_sound (a ∷ b ∷ c ∷ []) n e = let k = three_sound a b c n e in (omega arith, omega arith, (k.0.0, (k.0.1, (k.0.2, tt))), omega (arith, k.1))
number_sound (a ∷ b ∷ c ∷ d ∷ ds) n e = absurd (grind arith)

number_complete : (ds : List ℕ) (n : ℕ) → 1 ≤ length ds → length ds ≤ 3 → AllByRecursion (IsInRange 48 57) ds → amount 0 ds ≡ n → number_in ds ≡ Some n
number_complete [] n some few each e = absurd (omega arith)
number_complete (a ∷ []) n some few each e = three_complete 48 48 a n (omega arith, omega arith) (omega arith, omega arith) each.0 (omega arith)
number_complete (a ∷ b ∷ []) n some few each e = three_complete 48 a b n (omega arith, omega arith) each.0 each.1.0 (omega arith)
number_complete (a ∷ b ∷ c ∷ []) n some few each e = three_complete a b c n each.0 each.1.0 each.1.1.0 (omega arith)
number_complete (a ∷ b ∷ c ∷ d ∷ ds) n some few each e = absurd (omega arith)

-- a number behind a space
one_sound : (bs : List ℕ) (n : ℕ) → one_in bs ≡ Some n → Field n bs
one_sound [] n e = absurd (grind arith)
one_sound (b ∷ ds) n e =
    let is : b ≡ 32 = grind (arith, nat_tests) in
    let read : number_in ds ≡ Some n = grind (arith, nat_tests) in
    let k = number_sound ds n read in
    record { digits = ds; spaced = ap (λ x. x ∷ ds) is; some = k.0; few = k.1; each = k.2; value = k.3 }

one_complete : (bs : List ℕ) (n : ℕ) → Field n bs → one_in bs ≡ Some n
one_complete bs n f = subst (λ l. one_in l ≡ Some n) (sym f.spaced) (number_complete f.digits n f.some f.few f.each f.value)

-- two numbers
both : (p q : Option ℕ) (s o : ℕ) → option_zip p q ≡ Some (s, o) → (p ≡ Some s) × (q ≡ Some o)
both None q s o e = absurd (grind arith)
both (Some x) None s o e = absurd (grind arith)
both (Some x) (Some y) s o e = (grind arith, grind arith)

two_sound : (bs : List ℕ) (s o : ℕ) → two_in bs ≡ Some (s, o) → (bs ≡ take (second_at bs) bs ++ drop (second_at bs) bs) × Field s (take (second_at bs) bs) × Field o (drop (second_at bs) bs)
two_sound bs s o e =
    let k = both (one_in (take (second_at bs) bs)) (one_in (drop (second_at bs) bs)) s o e in
    (sym (take-append-drop (second_at bs) bs), one_sound _ s k.0, one_sound _ o k.1)

-- no digit is a space
ahead_digits : (ds es : List ℕ) → AllByRecursion (IsInRange 48 57) ds → ahead 32 (ds ++ 32 ∷ es) ≡ length ds
ahead_digits [] es each = refl
ahead_digits (d ∷ ds) es each = let more = ahead_digits ds es each.1 in let digit = each.0 in grind (arith, nat_tests)

two_complete : (first second : List ℕ) (s o : ℕ) → Field s first → Field o second → two_in (first ++ second) ≡ Some (s, o)
two_complete first second s o f g =
    let ds = f.digits in
    let es = g.digits in
    let at : second_at ((32 ∷ ds) ++ 32 ∷ es) ≡ suc (length ds) = ap suc (ahead_digits ds es f.each) in
    let front : take (suc (length ds)) ((32 ∷ ds) ++ 32 ∷ es) ≡ 32 ∷ ds = take_at (32 ∷ ds) (32 ∷ es) _ refl in
    let back : drop (suc (length ds)) ((32 ∷ ds) ++ 32 ∷ es) ≡ 32 ∷ es = drop_at (32 ∷ ds) (32 ∷ es) _ refl in
    let a : one_in (32 ∷ ds) ≡ Some s = one_complete (32 ∷ ds) s (record { digits = ds; spaced = refl; some = f.some; few = f.few; each = f.each; value = f.value }) in
    let b : one_in (32 ∷ es) ≡ Some o = one_complete (32 ∷ es) o (record { digits = es; spaced = refl; some = g.some; few = g.few; each = g.each; value = g.value }) in
    let cut : option_zip (one_in (take (suc (length ds)) ((32 ∷ ds) ++ 32 ∷ es))) (one_in (drop (suc (length ds)) ((32 ∷ ds) ++ 32 ∷ es))) ≡ Some (s, o) = (λ i. option_zip (one_in (front i)) (one_in (back i))) ∙ (λ i. option_zip (a i) (b i)) in
    let whole : (32 ∷ ds) ++ 32 ∷ es ≡ first ++ second = (λ i. sym f.spaced i ++ sym g.spaced i) in
    subst (λ l. two_in l ≡ Some (s, o)) whole (subst (λ k. option_zip (one_in (take k ((32 ∷ ds) ++ 32 ∷ es))) (one_in (drop k ((32 ∷ ds) ++ 32 ∷ es))) ≡ Some (s, o)) (sym at) cut)

-- a letter and what stands behind it, by the call that they are read as
module _ (call : Call) where
  either : (a b : ℕ) (x y : Option Call) → cond (eqb a b) x y ≡ Some call → ((a ≡ b) × (x ≡ Some call)) ⊎ (y ≡ Some call)
  either a b x y e = ⊎_elim (λ t. inl (t.1, sym (cond-true (eqb a b) x y t.0) ∙ e)) (λ t. inr (sym (cond-false (eqb a b) x y t.0) ∙ e)) (eqb_tells a b)

  made : {X : Type 0} (f : X → Call) (o : Option X) → option_map f o ≡ Some call → (x : X) × (o ≡ Some x) × (f x ≡ call)
  made f None e = absurd (grind arith)
  made f (Some x) e = (x, refl, cc)

  lone : (other : Call) (bs : List ℕ) → alone_in other bs ≡ Some call → (bs ≡ []) × (other ≡ call)
  lone other [] e = (refl, cc)
  lone other (b ∷ bs) e = absurd (grind arith)

  pair : (make : ℕ → ℕ → Call) (bs : List ℕ) → option_map (λ p. make p.0 p.1) (two_in bs) ≡ Some call → (s : ℕ) × (o : ℕ) × (first : List ℕ) × (second : List ℕ) × (bs ≡ first ++ second) × Field s first × Field o second × (make s o ≡ call)
  pair make bs e =
      let k = made (λ p. make p.0 p.1) (two_in bs) e in
      let w = two_sound bs k.0.0 k.0.1 k.1 in
      (k.0.0, k.0.1, take (second_at bs) bs, drop (second_at bs) bs, w.0, w.1, w.2, k.2)

  by_letter : (letter : ℕ) (bs : List ℕ) → call_by letter bs ≡ Some call → Writes call (letter ∷ bs)
  by_letter letter bs e0 =
      ⊎_elim (λ t. let k = pair Try bs t.1 in subst (λ c. Writes c (letter ∷ bs)) k.7 (k.2, k.3, (λ i. t.0 i ∷ k.4 i), k.5, k.6))
      (λ e1. ⊎_elim (λ t. let k = pair Strike bs t.1 in subst (λ c. Writes c (letter ∷ bs)) k.7 (k.2, k.3, (λ i. t.0 i ∷ k.4 i), k.5, k.6))
      (λ e2. ⊎_elim (λ t. let k = lone Back bs t.1 in subst (λ c. Writes c (letter ∷ bs)) k.1 (λ i. t.0 i ∷ k.0 i))
      (λ e3. ⊎_elim (λ t. let k = made Look (one_in bs) t.1 in subst (λ c. Writes c (letter ∷ bs)) k.2 (bs, ap (λ x. x ∷ bs) t.0, one_sound bs k.0 k.1))
      (λ e4. ⊎_elim (λ t. let k = lone Begin bs t.1 in subst (λ c. Writes c (letter ∷ bs)) k.1 (λ i. t.0 i ∷ k.0 i))
      (λ e5. ⊎_elim (λ t. let k = lone Next bs t.1 in subst (λ c. Writes c (letter ∷ bs)) k.1 (λ i. t.0 i ∷ k.0 i))
      (λ e6. ⊎_elim (λ t. let k = lone End bs t.1 in subst (λ c. Writes c (letter ∷ bs)) k.1 (λ i. t.0 i ∷ k.0 i))
      (λ e7. absurd (grind arith)) (either letter 101 _ _ e6)) (either letter 110 _ _ e5)) (either letter 119 _ _ e4)) (either letter 108 _ _ e3)) (either letter 98 _ _ e2)) (either letter 115 _ _ e1)) (either letter 116 _ _ e0)

read_so : (call : Call) (line : List ℕ) → call_of line ≡ Some call → Writes call line
read_so call [] e = absurd (grind arith)
read_so call (letter ∷ bs) e = by_letter call letter bs e

written : (call : Call) (line : List ℕ) → Writes call line → call_of line ≡ Some call
written (Try s o) line (first, second, e, f, g) = subst (λ l. call_of l ≡ Some (Try s o)) (sym e) (ap (option_map (λ p. Try p.0 p.1)) (two_complete first second s o f g))
written (Strike s o) line (first, second, e, f, g) = subst (λ l. call_of l ≡ Some (Strike s o)) (sym e) (ap (option_map (λ p. Strike p.0 p.1)) (two_complete first second s o f g))
written Back line e = ap call_of e
written (Look s) line (first, e, f) = subst (λ l. call_of l ≡ Some (Look s)) (sym e) (ap (option_map Look) (one_complete first s f))
written Begin line e = ap call_of e
written Next line e = ap call_of e
written End line e = ap call_of e

unwritten_none : (r : Option Call) (line : List ℕ) → ((call : Call) → r ≡ Some call → Writes call line) → ((call : Call) → Writes call line → ⊥) → r ≡ None
unwritten_none None line sound h = refl
unwritten_none (Some call) line sound h = absurd (h call (sound call refl))

pub call_read : (line : List ℕ) (r : Option Call) → r ≡ call_of line → Reads line r
call_read line r e =
    let sound : (call : Call) → r ≡ Some call → Writes call line = λ call is. read_so call line (sym e ∙ is) in
    let complete : (call : Call) → Writes call line → r ≡ Some call = λ call w. e ∙ written call line w in
    record { sound = sound; complete = complete; refused = λ is call w. let same = complete call w in grind arith; unwritten = unwritten_none r line sound }
