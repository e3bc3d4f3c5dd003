-- From showings to the largest supported box of every problem that the binder serves. Assumes nothing.
use Rattle.std.proofs.Common.{◌≡◌, ℕ, ◌<◌, Bool, T, ◌↔◌, List, length, get_or, sym, ap, ◌∙◌, subst}
use Rattle.subject.specs.Problem.{Problem, Real, Placed}
use Rattle.subject.specs.Boxes.{Box, Inside, Fits, Supported, LargestIn}
use Rattle.subject.proofs.Largest.{Left}
use Rattle.boxes.specs.Boxes as Cells
use Rattle.subject.specs.Decisions.{Decision, Largest}
use Rattle.subject.specs.Decisions as Deciding
use Rattle.boxes.specs.Boxes.{Open, opens, Within, Bit}
use Rattle.boxes.specs.Slots.{Disjoint}
use Rattle.boxes.proofs.Bits.{open_there}
use Rattle.binder.proofs.Supported.{fits_alike}
use Rattle.boxes.proofs.Counting.{opens_is}
use Rattle.binder.specs.Meaning.{Binding, SameLists}
use Rattle.settle.specs.Keeping.{Has, Keeps, Framed, Backed, Based}
use Rattle.settle.specs.Reach.{Covering, Covers, Holding, Rests, Resting}
use Rattle.settle.specs.Settled.{Settled, Lives, Under, Upheld, Tight, Alive}
use Rattle.settle.specs.declared.waiting.Waiting.{Waiting}
use Rattle.settle.proofs.Scopes.{covers_same}
use Rattle.settle.proofs.Tight.{fits_less}
use Rattle.settle.proofs.Passing.{Going, holding_all}

pub keeps_less : (P : Problem) (X Y : Box) (k : ℕ → List ℕ → Bool) → Inside Y X → Keeps P X k → Keeps P Y k
keeps_less P X Y k f h = record { ruled = h.ruled; fitting = λ s l a t. h.fitting s l a (t.0, λ i lt. f _ _ (t.1 i lt)) }

pub keeps_same : (P : Problem) (X : Box) (k j : ℕ → List ℕ → Bool) → ((s : ℕ) → SameLists (j s) (k s)) → Keeps P X k → Keeps P X j
keeps_same P X k j e h = record { ruled = λ s l t. h.ruled s l (subst T (e s l) t); fitting = λ s l a t. subst T (sym (e s l)) (h.fitting s l a t) }

pub has_framed : (P : Problem) (m n : Binding) → Has P m → Framed m n → Has P n
has_framed P m n h f = record { sheets = f.sheets.count ∙ h.sheets; scope = λ k. f.sheets.scope k ∙ h.scope k }

-- a box opens nothing of the slots that it does not cover
pub opens_low : (b : List ℕ) → length b ≡ 48 → (s o : ℕ) → T (opens b s o) → s < 48
opens_low b long s o t = subst (λ x. s < x) long (open_there b s o ((opens_is b s o).0 t))

pub inside_cells : (b c : List ℕ) → Within c b → Inside (opens c) (opens b)
inside_cells b c less s o t = (opens_is b s o).1 (less s o ((opens_is c s o).0 t))

-- a box that the rules support is upheld by the kept lists, and has something open in each slot
pub upheld_rule : (P : Problem) (m : Binding) (b : List ℕ) → Has P m → Keeps P (opens b) m.kept → (Y : Box) → Inside Y (opens b) → Supported P Y → Upheld m Y
upheld_rule P m b has keeps Y f y s p o hs hp t =
    let e = has.scope s in
    let h = y.held (get_or (m.scope s) p 0) o s p t (subst (λ x. s < x) has.sheets hs, subst (λ x. p < length x) e hp, ap (λ x. get_or x p 0) (sym e)) in
    (h.0, keeps.fitting s h.0 h.1 (h.2.0, λ i lt. f _ _ (h.2.1 i lt)), subst (λ x. Fits Y x h.0) (sym e) h.2, h.3)

-- What settling says of the kept lists says the same of every problem's rules that they stand for.
module _ (m k : Binding) (masks : List ℕ) (lost n : ℕ) (b c : List ℕ) (framed : Framed m k) (none_added : (s : ℕ) (l : List ℕ) → T (k.kept s l) → T (m.kept s l))
    (still : (s : ℕ) (l : List ℕ) → T (m.kept s l) → Cells.Fits c (m.scope s) l → T (k.kept s l)) (less : Within c b) (spared : (Y : Box) → Under Y b → Upheld m Y → Lives Y n → Under Y c)
    (alive : (s o : ℕ) → Open c s o → Alive c n)
    (held : (s : ℕ) → s < m.count → Covering (m.scope s) (get_or masks s 0) → Rests m masks b lost s → Holding k c s) where
  kept_on : (P : Problem) → Has P m → Keeps P (opens b) m.kept → Keeps P (opens c) k.kept
  kept_on P has keeps = record {
    ruled = λ s l t. keeps.ruled s l (none_added s l t);
    fitting = λ s l a f.
        still s l (keeps.fitting s l a (f.0, λ i lt. inside_cells b c less _ _ (f.1 i lt)))
        (subst (λ x. Cells.Fits c x l) (sym (has.scope s)) ((fits_alike c (P.scope s) l).1 f));
  }

  module _ (P : Problem) (has : Has P m) (long : length P.sizes ≡ n) (keeps : Keeps P (opens b) m.kept) where
    left : Left P (opens b) (opens c)
    left = (
      inside_cells b c less,
      λ Y y f s o t. (opens_is c s o).1 (spared Y (λ s' o' t'. (opens_is b s' o').0 (f s' o' t')) (upheld_rule P m b has keeps Y f y) (λ s' h. y.alive s' (subst (λ x. s' < x) (sym long) h)) s o t),
    )

    -- where anything is open, what is open is supported
    supported : Placed P → ((s o : ℕ) → Open b s o → Real P s o) → ((s : ℕ) → s < m.count → Holding k c s) → Alive c n → Supported P (opens c)
    supported placed real holds lives = record {
      placed = placed;
      real = λ s o t. real s o (less s o ((opens_is c s o).0 t));
      alive = λ s h. let w = lives.each s (subst (λ x. s < x) long h) in (w.option, (opens_is c s w.option).1 w.is);
      held = λ s o q i t nm.
          let e : k.scope q ≡ P.scope q = framed.sheets.scope q ∙ has.scope q in
          let h = holds q (subst (λ x. q < x) (sym has.sheets) nm.0) i o (subst (λ x. i < length x) (sym e) nm.1)
          (subst (λ x. Open c x o) (sym nm.2 ∙ ap (λ x. get_or x i 0) (sym e)) ((opens_is c s o).0 t)) in
          (h.list, keeps.ruled q h.list (none_added q h.list h.keeps), subst (λ x. Fits (opens c) x h.list) e ((fits_alike c (k.scope q) h.list).0 h.fits), h.holds);
    }

    largest_of : Placed P → ((s o : ℕ) → Open b s o → Real P s o) → ((s : ℕ) → s < m.count → Holding k c s) → LargestIn P (opens b) (opens c)
    largest_of placed real holds s o = (
      λ t. (opens c, supported placed real holds (alive s o ((opens_is c s o).0 t)), left.0, t),
      λ w. left.1 w.0 w.1 w.2 s o w.3,
    )

  settled : Settled m k masks lost n b c
  settled = record {
    framed = framed;
    none_added = none_added;
    still = still;
    less = less;
    spared = spared;
    alive = alive;
    held = held;
    keeps = kept_on;
    largest = λ P has long placed real keeps covers rest. largest_of P has long keeps placed real (λ s h. held s h (covers.each s h) (rest.each s h));
  }

-- a slot has no open option left: z opens nothing
pub settled_dry : (m k : Binding) (masks : List ℕ) (lost n : ℕ) (b c z : List ℕ) → Tight m k b c → (Alive c n → ⊥) → ((s o : ℕ) → Open z s o → ⊥) → Settled m k masks lost n b z
settled_dry m k masks lost n b c z done dry shut =
    settled m k masks lost n b z done.framed done.none_added (λ s l t f. done.still s l t (fits_less c z (m.scope s) l (λ t' o h. absurd (shut t' o h)) f)) (λ s o h. absurd (shut s o h))
    (λ Y u up lives. absurd (dry (record { each = λ s h. let a = lives s h in record { option = a.0; is = done.upheld Y u up s a.0 a.1 } }))) (λ s o h. absurd (shut s o h))
    (λ s hs covers rest p o hp h. absurd (shut _ o h))

-- no sheet waits any more
pub settled_same : (m k : Binding) (masks : List ℕ) (lost n : ℕ) (w : Waiting) (b c : List ℕ) → Going m k masks lost w b c → w.late ≡ 0 → Alive c n → Settled m k masks lost n b c
settled_same m k masks lost n w b c done none alive =
    let tight : Tight m k b c = done.tight in
    settled m k masks lost n b c tight.framed tight.none_added tight.still tight.within (λ Y u up lives. tight.upheld Y u up) (λ s o h. alive) (holding_all m k masks lost w b c done none)

-- ---- sheets that need not be asked

-- a box that opens what some supported boxes open is backed
backed_by : (P : Problem) (Y : Box) (Q : Box → Type 0) → ((s o : ℕ) → T (Y s o) ↔ ((Z : Box) × Supported P Z × Q Z × T (Z s o))) → Backed P Y
backed_by P Y Q big s o k i t nm =
    let y = (big s o).0 t in
    let h = y.1.held s o k i y.3 nm in
    (h.0, h.1, (h.2.0, λ j lt. (big _ _).1 (y.0, y.1, y.2, h.2.1 j lt)), h.3)

pub backed_largest : (P : Problem) (D : List Decision) (X : Box) → Largest P D X → Backed P X
backed_largest P D X = backed_by P X (Deciding.Within D)

pub backed_largest_in : (P : Problem) (X Y : Box) → LargestIn P X Y → Backed P Y
backed_largest_in P X Y = backed_by P Y (λ Z. Inside Z X)

pub based_same : (P : Problem) (X : Box) (set : ℕ) → Backed P X → ((s o : ℕ) → T (X s o) → s < 48) → Based P X X set
based_same P X set backed low = record { inside = λ s o t. t; apart = λ s o ne t. t; backed = backed; low = low }

pub covers_has : (P : Problem) (m : Binding) (masks : List ℕ) → Has P m → Covers P.sheets P.scope masks → Covers m.count m.scope masks
covers_has P m masks has = covers_same P.sheets m.count P.scope m.scope masks has.sheets has.scope

-- Sheets that name no slot of the set hold what is open, since they did in the box that it is based on.
pub resting_based : (P : Problem) (m : Binding) (masks b : List ℕ) (Z : Box) (set : ℕ) → Has P m → Keeps P Z m.kept → Covers m.count m.scope masks → Based P Z (opens b) set
    → Resting m masks b set
unfolding Disjoint
resting_based P m masks b Z set has keeps covers base = record {
  each = λ s hs apart p o hp h.
      let e = has.scope s in
      let t : ℕ = get_or (m.scope s) p 0 in
      let z : T (Z t o) = base.inside t o ((opens_is b t o).1 h) in
      let w = base.backed t o s p z (subst (λ x. s < x) has.sheets hs, subst (λ x. p < length x) e hp, ap (λ x. get_or x p 0) (sym e)) in
      let fits : Fits Z (m.scope s) w.0 = subst (λ x. Fits Z x w.0) (sym e) w.2 in
      record {
        list = w.0;
        keeps = keeps.fitting s w.0 w.1 w.2;
        fits = record { long = fits.0; each = λ q hq. (opens_is b _ _).0 (base.apart _ _ (λ x. apart _ (covers.each s hs q hq (base.low _ _ (fits.1 q hq))) x) (fits.1 q hq)) };
        holds = w.3;
      };
}

-- where every slot is lost, every sheet is asked
pub resting_none : (m : Binding) (masks b : List ℕ) (set : ℕ) → length b ≡ 48 → ((t : ℕ) → t < 48 → Bit set t) → Covers m.count m.scope masks → Resting m masks b set
unfolding Disjoint
resting_none m masks b set long all covers = record {
  each = λ s hs apart p o hp h. let low : get_or (m.scope s) p 0 < 48 = subst (λ x. get_or (m.scope s) p 0 < x) long (open_there b _ o h) in absurd (apart _ (covers.each s hs p hp low) (all _ low));
}
