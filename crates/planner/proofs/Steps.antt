-- What each call does to a planner, its binder and its log. Assumes nothing.
use Rattle.std.proofs.Common.{◌≡◌, ℕ, suc, ◌+◌, ◌^◌, ◌<◌, ◌≤◌, Bool, T, ◌≢◌, ◌↔◌, List, [], ◌∷◌, length, get_or, take, set, sym, refl, ap, ◌∙◌, subst, subst₂, ⊎_elim, arith, length-take, get_or-take}
use Rattle.std.proofs.lemmas.Bool.{cases_eq}
use Rattle.subject.specs.Problem.{Problem, Real, Placed}
use Rattle.subject.specs.Boxes.{Inside, opened}
use Rattle.subject.specs.Decisions.{Decision, tried, struck, Forbids, Open, Largest, tries, undone}
use Rattle.subject.specs.Logs.{Log, Call, Answer, calls, decided, walking, given, Refuses, Bit, Reckoned, try, strike, back, look, count, bits, refused}
use Rattle.subject.specs.Logs.{refuses, try_no_slot, try_no_option, try_shut, strike_no_slot, strike_no_option, strike_shut, try_done, strike_done, back_done, look_done}
use Rattle.subject.specs.Law.{inside}
use Rattle.subject.proofs.Bits.{small_bit}
use Rattle.subject.proofs.Largest.{decide_largest}
use Rattle.subject.proofs.Standing.{open_real, free_try, free_strike, free_back, free_look, stand_refused, stand_decided}
use Rattle.boxes.specs.declared.OptionBox.{OptionBox}
use Rattle.boxes.specs.Boxes as Cells
use Rattle.boxes.specs.Boxes.{opens, Fixed, Closed}
use Rattle.boxes.proofs.Bits.{open_same}
use Rattle.boxes.proofs.Counting.{opens_is}
use Rattle.binder.specs.declared.binders.Binder.{Ghosts}
use Rattle.binder.specs.Meaning.{Binding, SameLists, Noted, Undone}
use Rattle.boxes.specs.Slots.{Lone}
use Rattle.settle.specs.Keeping.{Has, Keeps}
use Rattle.settle.specs.Reach.{masks_of, Covers, Resting}
use Rattle.settle.specs.Settled.{Settled}
use Rattle.settle.proofs.Keeping.{opens_low, keeps_less, keeps_same, has_framed, covers_has, resting_based, backed_largest}
use Rattle.planner.specs.States.{Found, Shut, no_slot, no_option, not_open, cells_at, Saved, Stands, After}
use Rattle.planner.specs.declared.state.Planner.{Planner}
use Rattle.planner.proofs.Tables.{cells_same, cells_other}

-- ---- what a decision leaves of a box

-- an option closed
closed_cut : (b c : List ℕ) (s o : ℕ) → Closed b c s o → (t q : ℕ) → T (opens c t q) ↔ (T (opens b t q) × (Forbids (struck s o) t q → ⊥))
closed_cut b c s o done t q = (
  λ h. let k = (opens_is c t q).0 h in ((opens_is b t q).1 (done.less t q k), λ f. done.here (subst (λ x. Cells.Open c x o) f.0 (subst (λ x. Cells.Open c t x) f.1 k))),
  λ h. (opens_is c t q).1 (done.more t q h.1 ((opens_is b t q).0 h.0)),
)

-- every other option of a slot closed
fixed_cut : (b c : List ℕ) (s o : ℕ) → Fixed b c s o → (t q : ℕ) → T (opens c t q) ↔ (T (opens b t q) × (Forbids (tried s o) t q → ⊥))
fixed_cut b c s o done t q = (
  λ h.
      let k = (opens_is c t q).0 h in
      ((opens_is b t q).1 (done.less t q k), λ f. f.1 (done.alone q (subst (λ x. Cells.Open c x q) f.0 k))),
  λ h. (opens_is c t q).1 (back_in ((opens_is b t q).0 h.0) h.1),
)
  where
    back_in : Cells.Open b t q → (Forbids (tried s o) t q → ⊥) → Cells.Open c t q
    back_in k f =
        ⊎_elim
        (λ e. ⊎_elim
        (λ p. subst (λ x. Cells.Open c x q) (sym e) (subst (λ x. Cells.Open c s x) (sym p) (done.here (subst (λ x. Cells.Open b s x) p (subst (λ x. Cells.Open b x q) e k)))))
        (λ ne. absurd (f (e, ne))) (cases_eq q o))
        (λ ne. open_same b c t q (done.rest t ne) k)
        (cases_eq t s)

-- ---- saved boxes and marks

saved_tries : (P : Problem) (D : List Decision) (saved : List OptionBox) (marked : ℕ → ℕ → List ℕ → Bool) (d : ℕ) → Saved P D saved marked d → tries D ≡ d
saved_tries P [] saved marked d h = sym h
saved_tries P (tried s o ∷ D) saved marked d h = ap suc (saved_tries P D saved marked h.0 h.4) ∙ sym h.1
saved_tries P (struck s o ∷ D) saved marked d h = saved_tries P D saved marked d h

-- a box saved at or past the depth does not matter
saved_set : (P : Problem) (D : List Decision) (saved : List OptionBox) (marked : ℕ → ℕ → List ℕ → Bool) (d j : ℕ) (b : OptionBox) → d ≤ j → Saved P D saved marked d
    → Saved P D (set saved j b) marked d
saved_set P [] saved marked d j b k h = h
saved_set P (tried s o ∷ D) saved marked d j b k h =
    let ne : h.0 ≢ j = omega (arith, h.1) in
    let e = sym (cells_other saved j h.0 b ne) in
    (h.0, h.1, subst (λ x. Largest P D (opens x)) e h.2, subst (λ x. Keeps P (opens x) (marked h.0)) e h.3, saved_set P D saved marked h.0 j b (omega (arith, h.1)) h.4)
saved_set P (struck s o ∷ D) saved marked d j b k h = saved_set P D saved marked d j b k h

-- nor do marks at or past the depth
pub saved_marked : (P : Problem) (D : List Decision) (saved : List OptionBox) (marked marked' : ℕ → ℕ → List ℕ → Bool) (d : ℕ)
    → ((i s : ℕ) → i < d → SameLists (marked' i s) (marked i s)) → Saved P D saved marked d → Saved P D saved marked' d
saved_marked P [] saved marked marked' d f h = h
saved_marked P (tried s o ∷ D) saved marked marked' d f h =
    (h.0, h.1, h.2, keeps_same P _ _ _ (λ s'. f h.0 s' (omega (arith, h.1))) h.3, saved_marked P D saved marked marked' h.0 (λ i s' lt. f i s' (omega (arith, h.1))) h.4)
saved_marked P (struck s o ∷ D) saved marked marked' d f h = saved_marked P D saved marked marked' d f h

-- the newest try dropped with all behind it
saved_back : (P : Problem) (D : List Decision) (saved : List OptionBox) (marked : ℕ → ℕ → List ℕ → Bool) (e : ℕ) → Saved P D saved marked (suc e)
    → Largest P (undone D) (opens (cells_at saved e)) × Keeps P (opens (cells_at saved e)) (marked e) × Saved P (undone D) saved marked e
saved_back P [] saved marked e h = absurd (omega (arith, h))
saved_back P (tried s o ∷ D) saved marked e h =
    let q : h.0 ≡ e = omega (arith, h.1) in
    (subst (λ x. Largest P D (opens (cells_at saved x))) q h.2, subst (λ x. Keeps P (opens (cells_at saved x)) (marked x)) q h.3, subst (λ x. Saved P D saved marked x) q h.4)
saved_back P (struck s o ∷ D) saved marked e h = saved_back P D saved marked e h

-- ---- the calls

bit_open : (c : List ℕ) (s o : ℕ) → get_or c s 0 < 2 ^ 32 → Bit (get_or c s 0) o ↔ Cells.Open c s o
unfolding Cells.Open
bit_open c s o h = (λ b. (small_bit 32 (get_or c s 0) o h b, b), λ b. b.1)

module _ {B : Type 0} {bound : Ghosts B} (meaning : B → Binding) (P : Problem) where
  -- the number of slots and their sizes, as the problem and the planner have them
  pub slots_are : (D : List Decision) (p : Planner B bound) → Stands meaning P D p → length P.sizes ≡ p.slots.count
  slots_are D p st = ap length st.sizes ∙ rw length-take (let k = p.slots.few in let h = p.slots.long in omega arith)

  pub size_is : (D : List Decision) (p : Planner B bound) (s : ℕ) → s < p.slots.count → Stands meaning P D p → get_or P.sizes s 0 ≡ get_or p.slots.sizes s 0
  size_is D p s h st = ap (λ l. get_or l s 0) st.sizes ∙ rw get_or-take

  pub open_is : (D : List Decision) (p : Planner B bound) (s o : ℕ) → Stands meaning P D p → Cells.Open p.slate.cells s o ↔ Open P D s o
  open_is D p s o st = let b = opens_is p.slate.cells s o in let l = st.largest s o in (λ t. l.0 (b.1 t), λ t. b.0 (l.1 t))

  pub depth_is : (D : List Decision) (p : Planner B bound) → Stands meaning P D p → tries D ≡ p.depth
  depth_is D p st = saved_tries P D p.saved _ p.depth st.saved

  -- A refused call leaves all as it was.
  pub refused_stays : (L : Log) (p : Planner B bound) (c : Call) (n : ℕ) (a : After meaning P L p) → walking (record { call = c; answer = refused n } ∷ L) ≡ walking L → inside c ≡ mathlib.Core.Bool.false
      → Refuses P a.decisions c n → After meaning P (record { call = c; answer = refused n } ∷ L) p
  refused_stays L p c n a w i r = record {
    lawful = (a.lawful, a.outside ∙ sym i, (a.decisions, a.standing, refuses r));
    outside = w ∙ a.outside;
    decisions = a.decisions;
    standing = stand_refused P a.decisions (calls L) c n a.standing r;
    stands = a.stands;
  }

  -- why an option cannot be had, in the words of the problem
  pub shut_try : (L : Log) (p : Planner B bound) (s o n : ℕ) (a : After meaning P L p) → Shut p.slots p.slate.cells s o n → Refuses P a.decisions (try s o) n
  shut_try L p s o n a (no_slot h) = try_no_slot (omega (arith, h, slots_are _ p a.stands))
  shut_try L p s o n a (no_option h k) = try_no_option (omega (arith, h, slots_are _ p a.stands)) (omega (arith, k, size_is _ p s h a.stands))
  shut_try L p s o n a (not_open h k shut) =
      try_shut (omega (arith, h, slots_are _ p a.stands), omega (arith, k, size_is _ p s h a.stands)) (λ w. shut ((open_is _ p s o a.stands).1 w))

  pub shut_strike : (L : Log) (p : Planner B bound) (s o n : ℕ) (a : After meaning P L p) → Shut p.slots p.slate.cells s o n → Refuses P a.decisions (strike s o) n
  shut_strike L p s o n a (no_slot h) = strike_no_slot (omega (arith, h, slots_are _ p a.stands))
  shut_strike L p s o n a (no_option h k) = strike_no_option (omega (arith, h, slots_are _ p a.stands)) (omega (arith, k, size_is _ p s h a.stands))
  shut_strike L p s o n a (not_open h k shut) =
      strike_shut (omega (arith, h, slots_are _ p a.stands), omega (arith, k, size_is _ p s h a.stands)) (λ w. shut ((open_is _ p s o a.stands).1 w))

  -- Any other call is decided.
  answered : (L : Log) (p q : Planner B bound) (c : Call) (x : Answer) (a : After meaning P L p) → walking (record { call = c; answer = x } ∷ L) ≡ walking L → inside c ≡ mathlib.Core.Bool.false
      → Reckoned P a.decisions (given L) c x → ((n : ℕ) → Refuses P a.decisions c n → ⊥) → Stands meaning P (decided c a.decisions) q → After meaning P (record { call = c; answer = x } ∷ L) q
  answered L p q c x a w i r free st = record {
    lawful = (a.lawful, a.outside ∙ sym i, (a.decisions, a.standing, r));
    outside = w ∙ a.outside;
    decisions = decided c a.decisions;
    standing = stand_decided P a.decisions (calls L) c a.standing free;
    stands = st;
  }

  -- One more decision, and the box settled: m is the binder before, k the one after.
  module _ (D : List Decision) (d : Decision) (p : Planner B bound) (st : Stands meaning P D p) (m k : Binding) (b c : List ℕ) (has : Has P m) (keeps : Keeps P (opens p.slate.cells) m.kept)
      (placed : Placed P) (cut : (t q : ℕ) → T (opens b t q) ↔ (T (opens p.slate.cells t q) × (Forbids d t q → ⊥))) (masks : List ℕ) (lost : ℕ) (covers : Covers P.sheets P.scope masks) (off : (t o : ℕ) → (Cells.Bit lost t → ⊥) → T (opens p.slate.cells t o) → T (opens b t o))
      (done : Settled m k masks lost p.slots.count b c) where
    less : Inside (opens b) (opens p.slate.cells)
    less t q z = ((cut t q).0 z).0

    real : (s o : ℕ) → Cells.Open b s o → Real P s o
    real s o t = open_real P D s o ((st.largest s o).0 (less s o ((opens_is b s o).1 t)))

    kept : Keeps P (opens b) m.kept
    kept = keeps_less P _ _ _ less keeps

    rest : Resting m masks b lost
    rest = resting_based P m masks b (opens p.slate.cells) lost has keeps (covers_has P m masks has covers) (record { inside = less; apart = off; backed = backed_largest P D (opens p.slate.cells) st.largest; low = opens_low p.slate.cells p.slate.long })

    decided_largest : Largest P (d ∷ D) (opens c)
    decided_largest = decide_largest P D d (opens p.slate.cells) (opens b) (opens c) st.largest cut (done.largest P has (slots_are D p st) placed real kept (covers_has P m masks has covers) rest)

    decided_keeps : Keeps P (opens c) k.kept
    decided_keeps = done.keeps P has kept

  -- What strike does, where it is not refused.
  pub struck_done : (L : Log) (p q : Planner B bound) (s o n lost : ℕ) (b : List ℕ) → q.slots ≡ p.slots → q.reach ≡ p.reach → q.saved ≡ p.saved → q.depth ≡ p.depth
      → Found p.slots p.slate.cells s o → Closed p.slate.cells b s o → Lone lost s → Settled (meaning p.binder) (meaning q.binder) (masks_of p.reach) lost p.slots.count b q.slate.cells
      → n ≡ opened (opens q.slate.cells) → After meaning P L p → After meaning P (record { call = strike s o; answer = count n } ∷ L) q
  struck_done L p q s o n lost b es er ev ed found shut lone done e a =
      let D = a.decisions in
      let st = a.stands in
      let m = meaning p.binder in
      let k = meaning q.binder in
      let opens : Open P D s o = (open_is D p s o st).0 found.is in
      let cut = closed_cut p.slate.cells b s o shut in
      let low : s < 48 = omega (arith, found.slot, p.slots.few) in
      let off : (t r : ℕ) → (Cells.Bit lost t → ⊥) → T (Cells.opens p.slate.cells t r) → T (Cells.opens b t r) = λ t r ne z. (cut t r).1 (z, λ f. ne (subst (Cells.Bit lost) (sym f.0) (lone.here low))) in
      let big = decided_largest D (struck s o) p st m k b q.slate.cells st.has st.keeps opens.1.placed cut (masks_of p.reach) lost st.covers off done in
      answered L p q (strike s o) (count n) a refl refl (strike_done opens (_, big, e)) (λ i r. free_strike P D s o i opens r)
      (record {
        sizes = st.sizes ∙ ap (λ w. take w.count w.sizes) (sym es);
        covers = subst (λ x. Covers P.sheets P.scope (masks_of x)) (sym er) st.covers;
        some = st.some;
        has = has_framed P m k st.has done.framed;
        largest = big;
        keeps = decided_keeps D (struck s o) p st m k b q.slate.cells st.has st.keeps opens.1.placed cut (masks_of p.reach) lost st.covers off done;
        marks = done.framed.marks ∙ st.marks ∙ sym ed;
        saved = subst₂ (λ x y. Saved P D x k.marked y) (sym ev) (sym ed) (saved_marked P D p.saved m.marked k.marked p.depth (λ i s' lt. done.framed.marked i s') st.saved);
      })

  -- What try does, where it is not refused: m is the binder once marked.
  pub tried_done : (L : Log) (p q : Planner B bound) (s o n lost : ℕ) (b : List ℕ) (m : Binding) → q.slots ≡ p.slots → q.reach ≡ p.reach → q.saved ≡ set p.saved p.depth p.slate → q.depth ≡ p.depth + 1
      → p.depth < 16 → Found p.slots p.slate.cells s o → Fixed p.slate.cells b s o → Noted (meaning p.binder) m
      → Lone lost s → Settled m (meaning q.binder) (masks_of p.reach) lost p.slots.count b q.slate.cells → n ≡ opened (opens q.slate.cells)
      → After meaning P L p → After meaning P (record { call = try s o; answer = count n } ∷ L) q
  tried_done L p q s o n lost b m es er ev ed deep found fixed noted lone done e a =
      let D = a.decisions in
      let st = a.stands in
      let m0 = meaning p.binder in
      let k = meaning q.binder in
      let shows : Open P D s o = (open_is D p s o st).0 found.is in
      let cut = fixed_cut p.slate.cells b s o fixed in
      let has : Has P m = record { sheets = noted.sheets.count ∙ st.has.sheets; scope = λ i. noted.sheets.scope i ∙ st.has.scope i } in
      let keeps : Keeps P (opens p.slate.cells) m.kept = keeps_same P _ _ _ noted.kept st.keeps in
      let low : s < 48 = omega (arith, found.slot, p.slots.few) in
      let off : (t r : ℕ) → (Cells.Bit lost t → ⊥) → T (Cells.opens p.slate.cells t r) → T (Cells.opens b t r) = λ t r ne z. (cut t r).1 (z, λ f. ne (subst (Cells.Bit lost) (sym f.0) (lone.here low))) in
      let big = decided_largest D (tried s o) p st m k b q.slate.cells has keeps shows.1.placed cut (masks_of p.reach) lost st.covers off done in
      let few : tries D < 16 = omega (arith, depth_is D p st) in
      let table : List OptionBox = set p.saved p.depth p.slate in
      let here : cells_at table p.depth ≡ p.slate.cells = cells_same p.saved p.depth p.slate (let y = p.long in omega arith) in
      let newest : Keeps P (opens p.slate.cells) (k.marked p.depth) =
      subst (λ i. Keeps P (opens p.slate.cells) (k.marked i)) st.marks
      (keeps_same P _ _ _ (done.framed.marked m0.marks) (keeps_same P _ _ _ noted.newest st.keeps)) in
      let older : Saved P D table k.marked p.depth =
      saved_marked P D table m.marked k.marked p.depth (λ i s' lt. done.framed.marked i s')
      (saved_marked P D table m0.marked m.marked p.depth (λ i s' lt. noted.older i s' (omega (arith, st.marks)))
      (saved_set P D p.saved m0.marked p.depth p.depth p.slate (omega arith) st.saved)) in
      let saves : Saved P (tried s o ∷ D) table k.marked (p.depth + 1) =
      (p.depth, omega arith, subst (λ x. Largest P D (opens x)) (sym here) st.largest, subst (λ x. Keeps P (opens x) (k.marked p.depth)) (sym here) newest, older) in
      answered L p q (try s o) (count n) a refl refl (try_done shows few (_, big, e)) (λ i r. free_try P D s o i shows few r)
      (record {
        sizes = st.sizes ∙ ap (λ w. take w.count w.sizes) (sym es);
        covers = subst (λ x. Covers P.sheets P.scope (masks_of x)) (sym er) st.covers;
        some = st.some;
        has = has_framed P m k has done.framed;
        largest = big;
        keeps = decided_keeps D (tried s o) p st m k b q.slate.cells has keeps shows.1.placed cut (masks_of p.reach) lost st.covers off done;
        marks = done.framed.marks ∙ noted.marks ∙ ap (λ x. x + 1) st.marks ∙ sym ed;
        saved = subst₂ (λ x y. Saved P (tried s o ∷ D) x k.marked y) (sym ev) (sym ed) saves;
      })

  -- What back does, where it is not refused.
  pub backed : (L : Log) (p q : Planner B bound) (n e : ℕ) → q.slots ≡ p.slots → q.reach ≡ p.reach → q.saved ≡ p.saved → q.depth ≡ e → p.depth ≡ suc e → q.slate.cells ≡ cells_at p.saved e
      → Undone (meaning p.binder) (meaning q.binder) → n ≡ opened (opens q.slate.cells)
      → After meaning P L p → After meaning P (record { call = back; answer = count n } ∷ L) q
  backed L p q n e es er ev ed pd ec undid c a =
      let D = a.decisions in
      let st = a.stands in
      let m = meaning p.binder in
      let k = meaning q.binder in
      let old = saved_back P D p.saved m.marked e (subst (λ x. Saved P D p.saved m.marked x) pd st.saved) in
      let level : k.marks ≡ e = omega (arith, undid.marks, st.marks) in
      let big : Largest P (undone D) (opens q.slate.cells) = subst (λ x. Largest P (undone D) (opens x)) (sym ec) old.0 in
      let some : 0 < tries D = omega (arith, depth_is D p st) in
      let keeps : Keeps P (opens (cells_at p.saved e)) k.kept =
      keeps_same P _ _ _ undid.kept (subst (λ i. Keeps P (opens (cells_at p.saved e)) (m.marked i)) (sym level) old.1) in
      answered L p q back (count n) a refl refl (back_done some (_, big, c)) (λ i r. free_back P D i some r)
      (record {
        sizes = st.sizes ∙ ap (λ w. take w.count w.sizes) (sym es);
        covers = subst (λ x. Covers P.sheets P.scope (masks_of x)) (sym er) st.covers;
        some = st.some;
        has = record { sheets = undid.sheets.count ∙ st.has.sheets; scope = λ i. undid.sheets.scope i ∙ st.has.scope i };
        largest = big;
        keeps = subst (λ x. Keeps P (opens x) k.kept) (sym ec) keeps;
        marks = level ∙ sym ed;
        saved = subst₂ (λ x y. Saved P (undone D) x k.marked y) (sym ev) (sym ed)
            (saved_marked P (undone D) p.saved m.marked k.marked e (λ i s' lt. undid.older i s' (omega (arith, level))) old.2);
      })

  -- What look answers, where it is not refused.
  pub looked : (L : Log) (p : Planner B bound) (s : ℕ) → s < p.slots.count → get_or p.slate.cells s 0 < 2 ^ 32 → After meaning P L p
      → After meaning P (record { call = look s; answer = bits (get_or p.slate.cells s 0) } ∷ L) p
  looked L p s h f a =
      let D = a.decisions in
      let lt : s < length P.sizes = omega (arith, slots_are D p a.stands) in
      let sees : (o : ℕ) → Bit (get_or p.slate.cells s 0) o ↔ Open P D s o =
      λ o. let b = bit_open p.slate.cells s o f in let w = open_is D p s o a.stands in (λ t. w.0 (b.0 t), λ t. b.1 (w.1 t)) in
      answered L p p (look s) _ a refl refl (look_done lt f sees) (λ i r. free_look P D s i lt r) a.stands
