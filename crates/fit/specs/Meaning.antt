-- What a fit binder means: its sheets keep the rows at the fronts of their runs. Assumes nothing.
use Rattle.std.specs.Prelude.{◌≡◌, ℕ, zero, suc, ◌+◌, ◌<◌, ◌≤◌, Bool, true, false, ◌&&◌, ◌||◌, T, List, [], ◌∷◌, length, get_or, Decides, ◌==◌, ◌≢◌, nat_lt, slice_index, slice_index_or, refl}
use Rattle.std.proofs.Common.{sym, ap, ap₂, subst, ◌∙◌, arith}
use Rattle.std.proofs.Math.Logic.{∥∥₁_elim}
use Rattle.std.proofs.Math.Bridge.{le_prop}
use Rattle.std.proofs.Math.Nat.{ℕ_set}
use Rattle.std.proofs.lemmas.Bool.{false≢true, and_parts, and_from, eqb-true, eq-eqb, lt-ltb, cond-true}
use Rattle.std.proofs.lemmas.Bool.Decides.{Decides-and, Decides-ltb, Decides-like, Decides-below_or}
use Rattle.catalogue.specs.declared.view.View.{View}
use Rattle.catalogue.specs.Checks.{same}
use Rattle.boxes.specs.Boxes.{Fits}
use Rattle.binder.specs.Meaning.{Binding, Proper, Listed}
use Rattle.sheets.specs.Tables.{scope_in}
use Rattle.fit.specs.Runs.{Among}
use Rattle.fit.specs.Laid.{scope_shown, row_count, row_of, Laid}
use Rattle.fit.specs.declared.Fit.{Fit}

-- one of the first n places of the run of sheet s holds a row that reads as l
pub record Keeps (views : List View) (starts order : List ℕ) (s n : ℕ) (l : List ℕ) : Type 0 where
  pub row : ℕ
  pub among : Among order (slice_index starts s) n row
  pub reads : row_of views s row ≡ l

-- the same as a test
abbrev pub reads_as : (ℕ → List ℕ) → List ℕ → ℕ → List ℕ → ℕ → Bool
reads_as row order from l zero = false
reads_as row order from l (suc n) = same (row (slice_index order (from + n))) l || reads_as row order from l n

-- sheet s is there, and a row at one of the first n places of its run reads as l
unfoldable pub keeps : (views : List View) (count : ℕ) (starts order : List ℕ) (s n : ℕ) (l : List ℕ) → Bool
keeps views count starts order s n l = nat_lt s count && reads_as (row_of views s) order (slice_index starts s) l n

-- and mark i stands
unfoldable pub kept_at : (views : List View) (count : ℕ) (starts order : List ℕ) (marks i s n : ℕ) (l : List ℕ) → Bool
kept_at views count starts order marks i s n l = nat_lt i marks && keeps views count starts order s n l

abbrev pub fitting : (views : List View) (count : ℕ) (starts order counts : List ℕ) (saved : List (List ℕ)) (marks : ℕ) → Binding
fitting views count starts order counts saved marks =
    record {
      count = count;
      scope = λ s. scope_in views count s;
      kept = λ s l. keeps views count starts order s (slice_index counts s) l;
      marks = marks;
      marked = λ i s l. kept_at views count starts order marks i s (slice_index (slice_index_or saved i []) s) l;
    }

abbrev pub meaning_of : Fit → Binding
meaning_of x = fitting x.sheets.views x.sheets.count x.starts x.order x.counts x.saved x.marks.count

-- after a showing of b, sheet s keeps exactly the lists that it kept before and that fit b
pub record Exact (m n : Binding) (s : ℕ) (b : List ℕ) : Type 0 where
  pub just : (l : List ℕ) → Decides (n.kept s l) ((m.kept s l ≡ true) × Fits b (m.scope s) l)

-- Laws of these definitions.
pub scope_here : (views : List View) (count s : ℕ) → s < count → scope_in views count s ≡ scope_shown views s
scope_here views count s h = cond-true (nat_lt s count) (scope_shown views s) [] (lt-ltb s count h)

same_to : (xs ys : List ℕ) → same xs ys ≡ true → xs ≡ ys
same_to [] [] t = refl
same_to [] (y ∷ ys) t = absurd (false≢true t)
same_to (x ∷ xs) [] t = absurd (false≢true t)
same_to (x ∷ xs) (y ∷ ys) t =
    let z = and_parts (x == y) (same xs ys) t in ap₂ ◌∷◌ (eqb-true x y z.0) (same_to xs ys z.1)

same_self : (xs : List ℕ) → same xs xs ≡ true
same_self [] = refl
same_self (x ∷ xs) = and_from (x == x) (same xs xs) (eq-eqb x x refl) (same_self xs)

pub same_decides : (xs ys : List ℕ) → Decides (same xs ys) (xs ≡ ys)
same_decides xs ys = (same_to xs ys, λ e. subst (λ zs. same xs zs ≡ true) e (same_self xs))

pub reads_decides : (views : List View) (starts order : List ℕ) (s n : ℕ) (l : List ℕ) → Decides (reads_as (row_of views s) order (slice_index starts s) l n) (Keeps views starts order s n l)
reads_decides views starts order s n l =
    let from : ℕ = get_or starts s 0 in
    Decides-like (reads_as (row_of views s) order from l n)
    (λ z. record { row = slice_index order (from + z.0); among = record { place = z.0; below = z.1; is = refl }; reads = z.2 })
    (λ z. (z.among.place, z.among.below, ap (row_of views s) z.among.is ∙ z.reads))
    (Decides-below_or (λ k. same (row_of views s (slice_index order (from + k))) l) (λ k. row_of views s (slice_index order (from + k)) ≡ l) (reads_as (row_of views s) order from l) (λ k. same_decides (row_of views s (slice_index order (from + k))) l) refl (λ k. refl) n)

pub keeps_decides : (views : List View) (count : ℕ) (starts order : List ℕ) (s n : ℕ) (l : List ℕ) → Decides (keeps views count starts order s n l) ((s < count) × Keeps views starts order s n l)
unfolding keeps
keeps_decides views count starts order s n l =
    Decides-and (nat_lt s count) (reads_as (row_of views s) order (slice_index starts s) l n) (Decides-ltb s count) (reads_decides views starts order s n l)

pub kept_decides : (views : List View) (count : ℕ) (starts order : List ℕ) (marks i s n : ℕ) (l : List ℕ) → Decides (kept_at views count starts order marks i s n l) ((i < marks) × ((s < count) × Keeps views starts order s n l))
unfolding kept_at
kept_decides views count starts order marks i s n l =
    Decides-and (nat_lt i marks) (keeps views count starts order s n l) (Decides-ltb i marks) (keeps_decides views count starts order s n l)

pub from_T : (b : Bool) → T b → b ≡ true
from_T true t = refl
from_T false t = absurd t

pub to_T : (b : Bool) → b ≡ true → T b
to_T true e = tt
to_T false e = absurd (false≢true e)

-- each fact of a layout has one proof at most
module _ (views : List View) (count : ℕ) (starts order counts : List ℕ) (saved : List (List ℕ)) (marks : ℕ) where
  pub laid_out : ∥ Laid views count starts order counts saved marks ∥₁ → Laid views count starts order counts saved marks
  laid_out z =
      record {
        sound = record {
          some = λ s h. ∥∥₁_elim z le_prop (λ x. x.sound.some s h);
          short = λ s h. ∥∥₁_elim z le_prop (λ x. x.sound.short s h);
          slots = λ s p h k. ∥∥₁_elim z le_prop (λ x. x.sound.slots s p h k);
          apart = λ s p q h k o e. ∥∥₁_elim z (λ f g. absurd f) (λ x. x.sound.apart s p q h k o e);
          long = λ s r h k. ∥∥₁_elim z (ℕ_set _ _) (λ x. x.sound.long s r h k);
          options = λ s r p h k o. ∥∥₁_elim z le_prop (λ x. x.sound.options s r p h k o);
        };
        few = ∥∥₁_elim z le_prop (λ x. x.few);
        low = ∥∥₁_elim z le_prop (λ x. x.low);
        counted = ∥∥₁_elim z (ℕ_set _ _) (λ x. x.counted);
        deep = ∥∥₁_elim z (ℕ_set _ _) (λ x. x.deep);
        wide = λ i h. ∥∥₁_elim z (ℕ_set _ _) (λ x. x.wide i h);
        within = λ s h. ∥∥₁_elim z le_prop (λ x. x.within s h);
        room = λ s h. ∥∥₁_elim z le_prop (λ x. x.room s h);
        apart = λ s t h k. ∥∥₁_elim z le_prop (λ x. x.apart s t h k);
        rows = λ s p h k. ∥∥₁_elim z le_prop (λ x. x.rows s p h k);
        above = λ i s h k. ∥∥₁_elim z le_prop (λ x. x.above i s h k);
        capped = λ i s h k. ∥∥₁_elim z le_prop (λ x. x.capped i s h k);
        falls = λ i j s h k o. ∥∥₁_elim z le_prop (λ x. x.falls i j s h k o);
      }

  -- a row at one of the places of a run is a list for the scope
  listed_row : Laid views count starts order counts saved marks → (s n : ℕ) (l : List ℕ) → n ≤ row_count views s → (s < count) × Keeps views starts order s n l → Listed (scope_in views count s) l
  listed_row x s n l le k =
      let a = k.1.among in
      let there : k.1.row < row_count views s = subst (λ r. r < row_count views s) a.is (x.rows s a.place k.0 (omega (arith, a.below))) in
      let long : length (row_of views s k.1.row) ≡ length (scope_shown views s) = x.sound.long s k.1.row k.0 there in
      let low : (p : ℕ) → p < length (scope_shown views s) → slice_index (row_of views s k.1.row) p < 32 = λ p h. x.sound.options s k.1.row p k.0 there h in
      subst (λ sc. Listed sc l) (sym (scope_here views count s k.0))
      (subst (Listed (scope_shown views s)) k.1.reads (record { long = long; low = low }))

  pub fitting_proper : Laid views count starts order counts saved marks → Proper (fitting views count starts order counts saved marks)
  fitting_proper x =
      let here : (s : ℕ) → s < count → scope_shown views s ≡ scope_in views count s = λ s h. sym (scope_here views count s h) in
      record {
        few = omega (arith, x.few);
        low = x.low;
        some = λ s h. subst (λ sc. 1 ≤ length sc) (here s h) (x.sound.some s h);
        short = λ s h. subst (λ sc. length sc ≤ 8) (here s h) (x.sound.short s h);
        apart = λ s p q h lt. subst (λ sc. q < length sc → slice_index sc p ≢ slice_index sc q) (here s h) (x.sound.apart s p q h lt);
        listed = λ s l t. let k = (keeps_decides views count starts order s (slice_index counts s) l).0 (from_T _ t) in listed_row x s (slice_index counts s) l (x.within s k.0) k;
        listed_then = λ i s l t. let k = (kept_decides views count starts order marks i s (slice_index (slice_index_or saved i []) s) l).0 (from_T _ t) in listed_row x s (slice_index (slice_index_or saved i []) s) l (x.capped i s k.0 k.1.0) k.1;
      }

pub proper_of : (x : Fit) → Proper (meaning_of x)
proper_of x =
    fitting_proper x.sheets.views x.sheets.count x.starts x.order x.counts x.saved x.marks.count
    (laid_out x.sheets.views x.sheets.count x.starts x.order x.counts x.saved x.marks.count x.laid)
