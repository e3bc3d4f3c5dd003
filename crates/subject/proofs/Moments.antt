-- What is answered depends on the slots, the scopes, the rules, what is forbidden and the plans given, and on nothing
-- else. Assumes nothing.
use Rattle.std.proofs.Common.{◌≡◌, ℕ, ◌<◌, false, T, List, [], ◌∷◌, ◌++◌, map, length, get_or, sym, refl, ap, ◌∙◌, subst, ap₂, subst₂, inl, inr, arith}
use Rattle.subject.specs.Problem.{Problem, Real, Names, Placed, Same}
use Rattle.subject.specs.Boxes.{Box, Fits, Supported}
use Rattle.subject.specs.Decisions.{Decision, Agree, Open}
use Rattle.subject.specs.Plans.{Plan, Meets, Before, First}
use Rattle.subject.specs.Logs.{Call, Answer, Entry, Log, calls, decided, Then, Standing, walking, given, Reckoned, refuses}
use Rattle.subject.specs.Logs.{try, strike, back, begin, end, look, next, count, bits, refused, plan, none, done}
use Rattle.subject.specs.Logs.{look_no_slot, look_done, begin_done, end_done, next_short, next_plan, next_none}
use Rattle.subject.specs.Law.{Quiet, Looking, inside, Alike}
use Rattle.subject.proofs.Standing.{determinate}
use Rattle.subject.proofs.Bits.{same_bits}

pub same_sym : (P Q : Problem) → Same P Q → Same Q P
same_sym P Q e =
    record {
      sizes = sym e.sizes;
      sheets = sym e.sheets;
      scope = λ k h. sym (e.scope k (subst (λ n. k < n) (sym e.sheets) h));
      admits = λ k h l. sym (e.admits k (subst (λ n. k < n) (sym e.sheets) h) l);
    }

names_to : (P Q : Problem) → Same P Q → (k i s : ℕ) → Names P k i s → Names Q k i s
names_to P Q e k i s n =
    (subst (λ m. k < m) e.sheets n.0, subst (λ l. i < length l) (e.scope k n.0) n.1, ap (λ l. get_or l i 0) (sym (e.scope k n.0)) ∙ n.2)

real_to : (P Q : Problem) → Same P Q → (s o : ℕ) → Real P s o → Real Q s o
real_to P Q e s o r = (subst (λ l. s < length l) e.sizes r.0, subst (λ l. o < get_or l s 0) e.sizes r.1)

placed_to : (P Q : Problem) → Same P Q → Placed P → Placed Q
placed_to P Q e f k i s n = subst (λ l. s < length l) e.sizes (f k i s (names_to Q P (same_sym P Q e) k i s n))

pub supported_to : (P Q : Problem) → Same P Q → (X : Box) → Supported P X → Supported Q X
supported_to P Q e X xs =
    record {
      placed = placed_to P Q e xs.placed;
      real = λ s o t. real_to P Q e s o (xs.real s o t);
      alive = λ s h. xs.alive s (subst (λ l. s < length l) (sym e.sizes) h);
      held = λ s o k i t n.
          let m = names_to Q P (same_sym P Q e) k i s n in
          let l = xs.held s o k i t m in
          (l.0, subst T (e.admits k m.0 l.0) l.1, subst (λ c. Fits X c l.0) (e.scope k m.0) l.2, l.3);
    }

pub open_to : (P Q : Problem) (D E : List Decision) → Same P Q → Agree P D E → (s o : ℕ) → Open P D s o → Open Q E s o
open_to P Q D E e f s o w = (w.0, supported_to P Q e w.0 w.1, (λ t p h. (f t p (w.1.real t p h)).0 (w.2 t p h)), w.3)

pub agree_back : (P Q : Problem) (D E : List Decision) → Same P Q → Agree P D E → Agree Q E D
agree_back P Q D E e f s o r = let g = f s o (real_to Q P (same_sym P Q e) s o r) in (g.1, g.0)

pub meets_to : (P Q : Problem) (D E : List Decision) → Same P Q → Agree P D E → (p : Plan) → Meets P D p → Meets Q E p
meets_to P Q D E e f p m =
    record {
      placed = placed_to P Q e m.placed;
      long = m.long ∙ ap length e.sizes;
      real = λ s h. subst (λ l. get_or p s 0 < get_or l s 0) e.sizes (m.real s (subst (λ l. s < length l) (sym e.sizes) h));
      allowed = λ s h.
          let k = subst (λ l. s < length l) (sym e.sizes) h in
          (f s (get_or p s 0) (k, m.real s k)).0 (m.allowed s k);
      admitted = λ k h.
          let j = subst (λ n. k < n) (sym e.sheets) h in
          let c : T (Q.admits k (map (λ s. get_or p s 0) (P.scope k))) = subst T (e.admits k j _) (m.admitted k j) in
          subst (λ l. T (Q.admits k (map (λ s. get_or p s 0) l))) (e.scope k j) c;
    }

pub before_asym : (p q : Plan) → Before p q → Before q p → ⊥
before_asym [] q b c = b
before_asym (x ∷ p) [] b c = b
before_asym (x ∷ p) (y ∷ q) (inl h) (inl k) = omega arith
before_asym (x ∷ p) (y ∷ q) (inl h) (inr k) = omega (arith, k.0)
before_asym (x ∷ p) (y ∷ q) (inr h) (inl k) = omega (arith, h.0)
before_asym (x ∷ p) (y ∷ q) (inr h) (inr k) = before_asym p q h.1 k.1

module _ (P Q : Problem) (D E : List Decision) (G H : List Plan) (e : Same P Q) (f : Agree P D E) where
  back_e : Same Q P
  back_e = same_sym P Q e

  back_f : Agree Q E D
  back_f = agree_back P Q D E e f

  len : length P.sizes ≡ length Q.sizes
  len = ap length e.sizes

  first_same : (p q : Plan) → First P D G p → First Q E G q → p ≡ q
  first_same p q a b =
      elim (a.least q (meets_to Q P E D back_e back_f q b.meets) b.behind) [
        | inl h ↦ h
        | inr h ↦ elim (b.least p (meets_to P Q D E e f p a.meets) a.behind) [ inl k ↦ sym k | inr k ↦ absurd (before_asym p q h k) ]
      ]

  look_same : (s : ℕ) (a b : Answer) → Reckoned P D G (look s) a → Reckoned Q E H (look s) b → a ≡ b
  look_same s a b (refuses (look_no_slot h)) (refuses (look_no_slot k)) = refl
  look_same s a b (refuses (look_no_slot h)) (look_done k m g) = absurd (omega (arith, len))
  look_same s a b (look_done h m g) (refuses (look_no_slot k)) = absurd (omega (arith, len))
  look_same s a b (look_done h m g) (look_done k n j) =
      ap bits (same_bits 32 _ _ m n (λ o. (λ t. (j o).1 (open_to P Q D E e f s o ((g o).0 t)), λ t. (g o).1 (open_to Q P E D back_e back_f s o ((j o).0 t)))))

  next_same : (n : ℕ) (a b : Answer) → Reckoned P D G (next n) a → Reckoned Q E G (next n) b → a ≡ b
  next_same n a b (refuses (next_short h)) (refuses (next_short k)) = refl
  next_same n a b (refuses (next_short h)) (next_plan k p) = absurd (omega (arith, len))
  next_same n a b (refuses (next_short h)) (next_none k p) = absurd (omega (arith, len))
  next_same n a b (next_plan h p) (refuses (next_short k)) = absurd (omega (arith, len))
  next_same n a b (next_plan h p) (next_plan k q) = ap plan (first_same _ _ p q)
  next_same n a b (next_plan h p) (next_none k q) = absurd (q _ (meets_to P Q D E e f _ p.meets) p.behind)
  next_same n a b (next_none h p) (refuses (next_short k)) = absurd (omega (arith, len))
  next_same n a b (next_none h p) (next_plan k q) = absurd (p _ (meets_to Q P E D back_e back_f _ q.meets) q.behind)
  next_same n a b (next_none h p) (next_none k q) = refl

  begin_same : (a b : Answer) → Reckoned P D G begin a → Reckoned Q E H begin b → a ≡ b
  begin_same a b begin_done begin_done = refl
  begin_same a b (refuses x) y = elim x [ ]
  begin_same a b begin_done (refuses y) = elim y [ ]

  end_same : (a b : Answer) → Reckoned P D G end a → Reckoned Q E H end b → a ≡ b
  end_same a b end_done end_done = refl
  end_same a b (refuses x) y = elim x [ ]
  end_same a b end_done (refuses y) = elim y [ ]

  pub answer_same : (c : Call) (a b : Answer) → (T (inside c) → G ≡ H) → Quiet c → Reckoned P D G c a → Reckoned Q E H c b → a ≡ b
  answer_same (try s o) a b g q x y = absurd q
  answer_same (strike s o) a b g q x y = absurd q
  answer_same back a b g q x y = absurd q
  answer_same begin a b g q x y = begin_same a b x y
  answer_same end a b g q x y = end_same a b x y
  answer_same (look s) a b g q x y = look_same s a b x y
  answer_same (next n) a b g q x y = next_same n a b x (subst (λ z. Reckoned Q E z (next n) b) (sym (g tt)) y)

decided_quiet : (c : Call) (D : List Decision) → Quiet c → decided c D ≡ D
decided_quiet (try s o) D q = absurd q
decided_quiet (strike s o) D q = absurd q
decided_quiet back D q = absurd q
decided_quiet begin D q = refl
decided_quiet end D q = refl
decided_quiet (look s) D q = refl
decided_quiet (next n) D q = refl

then_quiet : (P : Problem) (D E : List Decision) (c : Call) → Quiet c → Then P D c E → D ≡ E
then_quiet P D E c q (inl x) = sym x.2
then_quiet P D E c q (inr x) = sym (x.1 ∙ decided_quiet c D q)

-- looks, begins, nexts and ends leave the decisions
stays : (P : Problem) (J L : Log) (D : List Decision) → Looking J → Standing P (calls (J ++ L)) D → Standing P (calls L) D
stays P [] L D q st = st
stays P (j ∷ J) L D q st = stays P J L D q.1 (subst (Standing P (calls (J ++ L))) (then_quiet P st.0 D j.call q.0 st.2) st.1)

given_step : (c : Call) (a : Answer) (L M : Log) → (T (walking L) → given L ≡ given M) → T (walking (record { call = c; answer = a } ∷ L))
    → given (record { call = c; answer = a } ∷ L) ≡ given (record { call = c; answer = a } ∷ M)
given_step (try s o) a L M g t = g t
given_step (strike s o) a L M g t = g t
given_step back a L M g t = g t
given_step begin a L M g t = refl
given_step end a L M g t = absurd t
given_step (look s) a L M g t = g t
given_step (next n) (count m) L M g t = g t
given_step (next n) (bits m) L M g t = g t
given_step (next n) (refused m) L M g t = g t
given_step (next n) (plan p) L M g t = ap (λ x. p ∷ x) (g t)
given_step (next n) none L M g t = g t
given_step (next n) done L M g t = g t

-- in a walk begun after the two moments the plans given are the same
given_same : (J L M : Log) → walking L ≡ false → T (walking (J ++ L)) → given (J ++ L) ≡ given (J ++ M)
given_same [] L M w t = absurd (subst T w t)
given_same (j ∷ J) L M w t = given_step j.call j.answer (J ++ L) (J ++ M) (given_same J L M w) t

entry_path : (j k : Entry) → j.call ≡ k.call → j.answer ≡ k.answer → j ≡ k
entry_path j k p q = λ i. record { call = p i; answer = q i }

pub alike : Alike
alike P Q L M [] [] D E e x y v w sd se f q c = refl
alike P Q L M [] (k ∷ K) D E e x y v w sd se f q c = let z : ◌≡◌ {A = ℕ} 0 1 = cc in absurd (omega arith)
alike P Q L M (j ∷ J) [] D E e x y v w sd se f q c = let z : ◌≡◌ {A = ℕ} 0 1 = cc in absurd (omega arith)
alike P Q L M (j ∷ J) (k ∷ K) D E e x y v w sd se f q c =
    let tails : calls J ≡ calls K = cc in
    let heads : j.call ≡ k.call = cc in
    let rest : J ≡ K = alike P Q L M J K D E e x.0 y.0 v w sd se f q.1 tails in
    let d : D ≡ x.2.0 = determinate P (calls L) D x.2.0 sd (stays P J L x.2.0 q.1 x.2.1) in
    let d' : E ≡ y.2.0 = determinate Q (calls M) E y.2.0 se (stays Q K M y.2.0 (subst Looking rest q.1) y.2.1) in
    let agree : Agree P x.2.0 y.2.0 = subst₂ (Agree P) d d' f in
    let g : T (inside j.call) → given (J ++ L) ≡ given (K ++ M) =
    λ t. given_same J L M v (subst T (sym x.1) t) ∙ ap (λ z. given (z ++ M)) rest in
    let there = subst (λ h. Reckoned Q y.2.0 (given (K ++ M)) h k.answer) (sym heads) y.2.2 in
    ap₂ ◌∷◌ (entry_path j k heads (answer_same P Q _ _ _ _ e agree j.call j.answer k.answer g q.0 x.2.2 there)) rest
