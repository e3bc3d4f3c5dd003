-- What opening a planner comes to. Assumes nothing.
use Rattle.std.proofs.Common.{◌≡◌, ℕ, zero, suc, ◌+◌, ◌<◌, ◌≤◌, Bool, true, false, T, List, [], ◌∷◌, length, get_or, take, Ok, Err, Result, sym, refl, ap, unwrap_or, ◌∙◌, subst, ⊎_elim, arith, length-take, get_or-take}
use denote.Param.Members.{Mut, Called}
use Rattle.std.specs.Array.{IsFromFnResult, IsFromFnResultFrom}
use Rattle.std.specs.Bool.{MatchBool}
use Rattle.std.specs.List.{slice_get, AllByRecursion, AllWithin, HoldsAt, range_with_len}
use Rattle.std.proofs.lemmas.List.FromFn.{length-range_with_len, get_or-range_with_len}
use Rattle.std.proofs.lemmas.List.{get_or_past, same_lists, get_or_default}
use Rattle.std.proofs.lemmas.Option.{unwrap_or-slice_get}
use Rattle.std.proofs.lemmas.Bool.{cases_eq, cases_lt}
use Rattle.catalogue.specs.declared.fault.Fault.{Fault}
use Rattle.catalogue.specs.Content.{Content}
use Rattle.catalogue.specs.declared.counts.Counts.{Counts}
use Rattle.catalogue.specs.Verdict.{content, accepts}
use Rattle.catalogue.specs.Law.{Octets}
use Rattle.catalogue.specs.Views.{options_said}
use Rattle.catalogue.proofs.Held.{held}
use Rattle.subject.specs.Problem.{Problem, Real, Placed}
use Rattle.subject.specs.Boxes.{Box}
use Rattle.subject.specs.Decisions.{Largest}
use Rattle.boxes.specs.Boxes as Cells
use Rattle.boxes.specs.Boxes.{opens, Filled}
use Rattle.boxes.proofs.Counting.{opens_is}
use Rattle.binder.specs.declared.binders.Binder.{Ghosts}
use Rattle.binder.specs.Meaning.{Binding, Cleared}
use Rattle.settle.specs.Keeping.{Has, Keeps}
use Rattle.settle.specs.Reach.{masks_of, Covers, Resting}
use Rattle.settle.specs.Settled.{Settled}
use Rattle.settle.proofs.Keeping.{keeps_same, has_framed}
use Rattle.settle.proofs.Scopes.{covers_same}
use Rattle.settle.proofs.Tight.{framed_none}
use Rattle.planner.specs.Opening.{slots_said, slots_in, posed, Below, AllBelow, Started}
use Rattle.planner.specs.States.{After}
use Rattle.planner.specs.declared.state.Planner.{Planner}

-- ---- the slots of a catalogue

-- what is said of a slot
said_is : (r : Result Content Fault) (i : ℕ) → options_said r i ≡ slice_get (slots_said r) i
said_is (Ok w) i = refl
said_is (Err f) i = refl

told : (bytes : List ℕ) (i : ℕ) → options_said (content bytes) i ≡ slice_get (slots_in bytes) i
unfolding slots_in
told bytes i = said_is (content bytes) i

-- the closure gives what h says of each number, and stays as it is
made_at : {F : Type 0} (g : Mut F (ℕ × Unit {0}) ℕ) (f : F) (h : ℕ → ℕ) → ((i y : ℕ) (q : F) → Called g f (i, tt) y q → (q ≡ f) × (y ≡ h i))
    → (ys : List ℕ) (i n : ℕ) → IsFromFnResultFrom g f ys i n → (k : ℕ) → i ≤ k → k < i + n → get_or ys k 0 ≡ h k
made_at g f h gives ys i zero made k low high = absurd (omega arith)
made_at g f h gives ys i (suc n) (q, y, is, called, rest) k low high =
    let one = gives i y q called in
    ⊎_elim
    (λ e. subst (λ x. get_or ys x 0 ≡ h x) (sym e) (is.1 0 ∙ one.1))
    (λ ne. made_at g f h gives ys (i + 1) n (subst (λ x. IsFromFnResultFrom g x ys (i + 1) n) one.0 rest) k (omega arith) (omega arith))
    (cases_eq k i)

pub said_at : {F : Type 0} (g : Mut F (ℕ × Unit {0}) ℕ) (f : F) (h : ℕ → ℕ) (ys : List ℕ) (n : ℕ) → IsFromFnResult g f ys n → ((i y : ℕ) (q : F) → Called g f (i, tt) y q → (q ≡ f) × (y ≡ h i))
    → (k : ℕ) → k < n → get_or ys k 0 ≡ h k
said_at g f h ys n made gives k lt = made_at g f h gives ys 0 n made.each k (omega arith) (omega arith)

-- a checked catalogue has at most 48 slots, and counts them
pub slots_counted : (bytes : List ℕ) (c : Counts) → accepts bytes c ≡ true → Octets bytes → (c.slots ≤ 48) × (length (slots_in bytes) ≡ c.slots)
unfolding slots_in
slots_counted bytes c a o =
    let h = held bytes c a o in
    let count : length h.list.options ≡ c.slots = ap (λ (k : Counts). k.slots) h.counts in
    (omega (arith, count, h.sound.slots), subst (λ x. length (slots_said x) ≡ c.slots) (sym h.is) count)

-- with what is said of each slot the sizes are the catalogue's
pub sizes_taken : (bytes sizes : List ℕ) (n : ℕ) (c : Counts) → n ≡ c.slots → accepts bytes c ≡ true → Octets bytes → length sizes ≡ 48 → ((s : ℕ) → s < 48 → get_or sizes s 0 ≡ unwrap_or (options_said (content bytes) s) 0) → take n sizes ≡ slots_in bytes
sizes_taken bytes sizes n c e a o long said =
    let count = slots_counted bytes c a o in
    let few : n ≤ 48 = omega (arith, e, count.0) in
    let all : length (slots_in bytes) ≡ n = count.1 ∙ sym e in
    let taken : length (take n sizes) ≡ n = rw length-take (omega (arith, long, few)) in
    same_lists (take n sizes) (slots_in bytes) (omega (arith, taken, all))
    (λ i d h.
    let is = said i (omega (arith, h, taken, few)) ∙ ap (λ x. unwrap_or x 0) (told bytes i) ∙ unwrap_or-slice_get (slots_in bytes) i 0 in
    get_or_default (take n sizes) i d 0 h ∙ get_or-take n sizes i 0 (omega (arith, taken, h)) ∙ is ∙ sym (get_or_default (slots_in bytes) i d 0 (omega (arith, h, taken, all))))

all_at : (xs : List ℕ) (s : ℕ) → AllByRecursion (λ n. (1 ≤ n) × (n ≤ 32)) xs → get_or xs s 0 ≤ 32
all_at [] s a = omega arith
all_at (x ∷ xs) zero a = a.0.1
all_at (x ∷ xs) (suc s) a = all_at xs s a.1

pub slots_small : (bytes : List ℕ) (c : Counts) → accepts bytes c ≡ true → Octets bytes → (s : ℕ) → get_or (slots_in bytes) s 0 ≤ 32
unfolding slots_in
slots_small bytes c a o s = let h = held bytes c a o in subst (λ x. get_or (slots_said x) s 0 ≤ 32) (sym h.is) (all_at h.list.options s h.sound.sizes)

pub slots_some : (bytes : List ℕ) (c : Counts) → accepts bytes c ≡ true → Octets bytes → 0 < length (slots_in bytes)
unfolding slots_in
slots_some bytes c a o = let h = held bytes c a o in subst (λ x. 0 < length (slots_said x)) (sym h.is) (omega (arith, h.sound.some))

-- ---- the first box

-- a test of each number below n that stops at the first that fails
pub each_number : (n : ℕ) (r : Bool) (P : ℕ → Type 0)
    → MatchBool r (AllWithin P (range_with_len 0 n) 0 (length (range_with_len 0 n))) ((k : ℕ) × (k < length (range_with_len 0 n)) × HoldsAt (λ i. P i → ⊥) (range_with_len 0 n) k)
    → (r ≡ true → (k : ℕ) → k < n → P k) × (((k : ℕ) → k < n → P k) → r ≡ true)
each_number n true P h =
    (λ e k lt. let is : get_or (range_with_len 0 n) k 0 ≡ k = omega (arith, get_or-range_with_len 0 n k 0 lt) in subst P is (h k 0 (omega arith) (omega (arith, length-range_with_len 0 n))), λ all. refl)
each_number n false P (k, lt, not_there) =
    let low : k < n = omega (arith, length-range_with_len 0 n, lt) in
    let is : get_or (range_with_len 0 n) k 0 ≡ k = omega (arith, get_or-range_with_len 0 n k 0 low) in
    (λ e. cc, λ all. absurd (not_there 0 (subst P (sym is) (all k low))))

-- every sheet names slots below n alone where each does
pub all_sheets : (m : Binding) (n : ℕ) (r : Bool) → (r ≡ true → (k : ℕ) → k < m.count → Below m k n (length (m.scope k))) × (((k : ℕ) → k < m.count → Below m k n (length (m.scope k))) → r ≡ true)
    → (r ≡ true → AllBelow m n m.count) × (AllBelow m n m.count → r ≡ true)
all_sheets m n r d = (
  λ e. record { each = λ k i h h' lt. (d.0 e k h).each i h lt lt },
  λ a. d.1 (λ k h. record { each = λ i h' lt lt'. a.each k i h h lt }),
)

-- a box that opens every option that there is: the largest box within it is the largest where nothing is forbidden
first_largest : (P : Problem) (X Y : Box) → ((s o : ℕ) → Real P s o → T (X s o)) → Rattle.subject.specs.Boxes.LargestIn P X Y → Largest P [] Y
first_largest P X Y all done t q =
    (λ h. let y = (done t q).0 h in (y.0, y.1, (λ u r k. tt), y.3), λ w. (done t q).1 (w.0, w.1, (λ u r k. all u r (w.1.real u r k)), w.3))

module _ (m : Binding) (n : ℕ) (sizes : List ℕ) (long : length sizes ≡ n) (few : n ≤ 48) where
  module _ (P : Problem) (e : P.sizes ≡ sizes) (has : Has P m) where
    length_of : length P.sizes ≡ n
    length_of = ap length e ∙ long

    size_of : (s : ℕ) → get_or P.sizes s 0 ≡ get_or sizes s 0
    size_of s = ap (λ x. get_or x s 0) e

    real_of : (b : List ℕ) → Filled sizes b → (s o : ℕ) → Cells.Open b s o → Real P s o
    real_of b filled s o h =
        let small = filled.real s o h in (
          ⊎_elim (λ lt. omega (arith, length_of)) (λ past. absurd (let z : get_or sizes s 0 ≡ 0 = get_or_past sizes s 0 (omega (arith, length_of, long)) in omega (arith, small))) (cases_lt s n),
          omega (arith, small, size_of s),
        )

    all_of : (b : List ℕ) → ((s : ℕ) → get_or sizes s 0 ≤ 32) → Filled sizes b → (s o : ℕ) → Real P s o → T (opens b s o)
    all_of b small filled s o r =
        (opens_is b s o).1 (filled.all s o (omega (arith, r.0, length_of)) (omega (arith, r.1, size_of s, small s)) (omega (arith, r.1, size_of s)))

    placed_of : AllBelow m n m.count → Placed P
    placed_of below q i s nm =
        let h : q < m.count = omega (arith, nm.0, has.sheets) in
        let lt = below.each q i h h (subst (λ x. i < length x) (sym (has.scope q)) nm.1) in
        let z : get_or (m.scope q) i 0 ≡ s = ap (λ x. get_or x i 0) (has.scope q) ∙ nm.2 in
        omega (arith, lt, z, length_of)

    below_of : Placed P → AllBelow m n m.count
    below_of placed = record {
      each = λ q i h h' lt.
          let z = placed q i (get_or (P.scope q) i 0) (omega (arith, h, has.sheets), subst (λ x. i < length x) (has.scope q) lt, refl) in
          subst (λ x. get_or x i 0 < n) (sym (has.scope q)) (omega (arith, z, length_of));
    }

  pub started : (k : Binding) (masks : List ℕ) (lost : ℕ) (b c : List ℕ) → AllBelow m n m.count → Filled sizes b → Covers m.count m.scope masks → Resting m masks b lost → Settled m k masks lost n b c
      → Started m k sizes c
  started k masks lost b c below filled covers rest done = record {
    framed = done.framed;
    largest = λ small P e has keeps.
        first_largest P (opens b) (opens c) (all_of P e has b small filled)
        (done.largest P has (length_of P e has) (placed_of P e has below) (real_of P e has b filled) (keeps (opens b)) covers rest);
    keeps = λ P e has keeps. done.keeps P has (keeps (opens b));
  }

  -- a sheet names a slot beyond the last
  pub started_dry : (c : List ℕ) → (AllBelow m n m.count → ⊥) → ((s o : ℕ) → Cells.Open c s o → ⊥) → Started m m sizes c
  started_dry c bad shut = record {
    framed = framed_none m;
    largest = λ small P e has keeps s o. (λ t. absurd (shut s o ((opens_is c s o).0 t)), λ w. absurd (bad (below_of P e has w.1.placed)));
    keeps = λ P e has keeps. keeps (opens c);
  }

-- ---- opening: m0 is the binder that was passed, m the same with all marks undone

pub opened_at_lem : {B : Type 0} {bound : Ghosts B} (meaning : B → Binding) (p : Planner B bound) (m0 m : Binding) (sizes : List ℕ) → Cleared m0 m → Started m (meaning p.binder) (take p.slots.count p.slots.sizes) p.slate.cells
    → take p.slots.count p.slots.sizes ≡ sizes → Covers m.count m.scope (masks_of p.reach) → p.depth ≡ 0 → ((s : ℕ) → get_or sizes s 0 ≤ 32) → 0 < length sizes → After meaning (posed sizes m0) [] p
opened_at_lem meaning p m0 m sizes cleared first es covers d small some =
    let started : Started m (meaning p.binder) sizes p.slate.cells = subst (λ x. Started m (meaning p.binder) x p.slate.cells) es first in
    let P : Problem = posed sizes m0 in
    let k = meaning p.binder in
    let has : Has P m = record { sheets = cleared.sheets.count; scope = cleared.sheets.scope } in
    let all : (X : Box) → Keeps P X m.kept = λ X. keeps_same P X P.admits m.kept cleared.kept (record { ruled = λ s l t. t; fitting = λ s l t f. t }) in
    record {
      lawful = tt;
      outside = refl;
      decisions = [];
      standing = refl;
      stands = record {
        sizes = sym es;
        covers = covers_same m.count m0.count m.scope m0.scope (masks_of p.reach) (sym cleared.sheets.count) (λ i. sym (cleared.sheets.scope i)) covers;
        some = some;
        has = has_framed P m k has started.framed;
        largest = started.largest small P refl has all;
        keeps = started.keeps P refl has all;
        marks = started.framed.marks ∙ cleared.marks ∙ sym d;
        saved = d;
      };
    }
