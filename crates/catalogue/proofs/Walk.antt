-- What going through the sheets of a file meets and gives. Assumes nothing.
use Rattle.std.proofs.Common.{◌≡◌, ℕ, ◌+◌, ◌<◌, ◌≤◌, Bool, true, false, cond, List, [], ◌∷◌, length, get_or, drop, map, ℤ, Some, None, Option, sym, refl, ap, ◌∙◌, subst, add-zero, arith}
use Rattle.std.proofs.lemmas.List.{get_or-drop, length-map}
use Rattle.std.proofs.lemmas.Option.{none-some, slice_get-map}
use Rattle.std.proofs.lemmas.Iterator.{YieldsList}
use Rattle.std.specs.Iterator.{AlwaysYields}
use Rattle.std.specs.List.{slice_get, filter}
use Rattle.std.specs.Option.{option_map}
use Rattle.catalogue.specs.declared.kind.Kind.{Kind}
use Rattle.catalogue.specs.declared.kind.Kind.TheVariants.{Slot, Fit, Bar, Load, Row, Weight, End}
use Rattle.catalogue.specs.declared.make.Make.{Make}
use Rattle.catalogue.specs.declared.make.Make.TheVariants.{Fit as FitMake, Bar as BarMake, Load as LoadMake}
use Rattle.catalogue.specs.declared.sheet_scan.SheetScan.{SheetScan}
use Rattle.catalogue.specs.declared.view.View.{View}
use Rattle.catalogue.specs.Content.{Sheet}
use Rattle.catalogue.specs.Writing.{kind_of}
use Rattle.catalogue.specs.Records.{kind_at, body_len, header_size}
use Rattle.catalogue.specs.Kinds.{code_of, make_of}
use Rattle.catalogue.specs.Views.{Shown, is_make, of_make, showing_of, seen}
use Rattle.catalogue.specs.Places.{past, Entries, SheetLies, Ahead, end, next}
use Rattle.catalogue.specs.Listing.{entry_for, entry_by, Gives, NextGives, Stands}

-- the headers of a make have its byte of kind
few_kinds : (m : Make) → (2 ≤ kind_of m) × (kind_of m ≤ 4)
few_kinds FitMake = (omega arith, omega arith)
few_kinds BarMake = (omega arith, omega arith)
few_kinds LoadMake = (omega arith, omega arith)

one_make : (m k : Make) → kind_of m ≡ kind_of k → m ≡ k
one_make FitMake FitMake e = refl
one_make FitMake BarMake e = absurd (omega arith)
one_make FitMake LoadMake e = absurd (omega arith)
one_make BarMake FitMake e = absurd (omega arith)
one_make BarMake BarMake e = refl
one_make BarMake LoadMake e = absurd (omega arith)
one_make LoadMake FitMake e = absurd (omega arith)
one_make LoadMake BarMake e = absurd (omega arith)
one_make LoadMake LoadMake e = refl

never : {X Y : Type 0} {x : X} → ◌≡◌ {A = Option X} None (Some x) → Y
never e = absurd (none-some _ e)

some_is : {X : Type 0} {a b : X} → ◌≡◌ {A = Option X} (Some a) (Some b) → a ≡ b
some_is e = cc

makes : (k : Kind) (m : Make) → make_of k ≡ Some m → code_of k ≡ kind_of m
makes Slot m e = never e
makes Fit m e = ap kind_of (some_is e)
makes Bar m e = ap kind_of (some_is e)
makes Load m e = ap kind_of (some_is e)
makes Row m e = never e
makes Weight m e = never e
makes End m e = never e

pub header_len : (m : Make) → 1 + body_len (kind_of m) ≡ header_size m
header_len FitMake = refl
header_len BarMake = refl
header_len LoadMake = refl

pub header_low : (m : Make) → 10 ≤ header_size m
header_low FitMake = omega arith
header_low BarMake = omega arith
header_low LoadMake = omega arith

pub ahead_inside : {bs : List ℕ} {at : ℕ} {ts : List Sheet} → Ahead bs at ts → at < length bs
ahead_inside (end h e) = h
ahead_inside (next l r) = omega (arith, l.header)

-- a sheet of the make lies at the place, and the others behind it
pub record Met (bs : List ℕ) (at : ℕ) (m : Make) (ts : List Sheet) : Type 0 where
  pub sheet : Sheet
  pub rest : List Sheet
  pub to : ℕ
  pub is : ts ≡ sheet ∷ rest
  pub make : sheet.make ≡ m
  pub lies : SheetLies bs at sheet to
  pub ahead : Ahead bs to rest

-- what the kind at the place tells
met : {bs : List ℕ} {at : ℕ} {ts : List Sheet} (k : Kind) (m : Make) → code_of k ≡ kind_at bs at → make_of k ≡ Some m → Ahead bs at ts → Met bs at m ts
met k m code e (end h f) = absurd (let g = few_kinds m in let i = makes k m e in omega arith)
met k m code e (next {to = to} {t = t} {ts = rest} l r) =
    record { sheet = t; rest = rest; to = to; is = refl; make = one_make t.make m (sym l.kind ∙ sym code ∙ makes k m e); lies = l; ahead = r }

-- where a sheet that is met has its parts
pub record Parts (bs : List ℕ) (at size to : ℕ) (m : Make) : Type 0 where
  pub header : at + size < length bs
  pub long : size ≡ header_size m
  pub few : get_or (drop (at + 1) bs) 0 0 ≤ 8
  pub behind : at + size ≡ past bs at
  pub entries : Entries bs (at + size) to

parts : {bs : List ℕ} {at : ℕ} {ts : List Sheet} {m : Make} (k : Kind) (size : ℕ) → code_of k ≡ kind_at bs at → make_of k ≡ Some m → size ≡ 1 + body_len (code_of k) → (h : Met bs at m ts) → Parts bs at size h.to m
parts {bs = bs} {at = at} {m = m} k size code e is h =
    let here : at + size ≡ past bs at = ap (λ n. at + n) (is ∙ ap (λ c. 1 + body_len c) code) in
    let lies = h.lies in
    let read : get_or (drop (at + 1) bs) 0 0 ≡ get_or bs (at + 1) 0 = get_or-drop (at + 1) bs 0 0 ∙ ap (λ i. get_or bs i 0) (add-zero (at + 1)) in
    record {
      header = subst (λ n. n < length bs) (sym here) lies.header;
      long = is ∙ ap (λ c. 1 + body_len c) (makes k m e) ∙ header_len m;
      few = subst (λ n. n ≤ 8) (sym read) lies.few;
      behind = here;
      entries = subst (λ n. Entries bs n h.to) (sym here) lies.entries;
    }

pub header_here : {bs : List ℕ} {at : ℕ} {ts : List Sheet} {m : Make} (k : Kind) (size : ℕ) → code_of k ≡ kind_at bs at → Some m ≡ make_of k → size ≡ 1 + body_len (code_of k) → Ahead bs at ts → (h : Met bs at m ts) × Parts bs at size h.to m
header_here {m = m} k size code e is a = let h = met k m code (sym e) a in (h, parts k size code (sym e) is h)

pub entry_same : (m k : Make) (a b : List ℕ) (y z : ℤ) (d e : List ℕ) → m ≡ k → a ≡ b → y ≡ z → d ≡ e → ◌≡◌ {A = Make × Shown} (m, record { scope = a; «cap» = y; entries = d }) (k, record { scope = b; «cap» = z; entries = e })
entry_same m k a b y z d e l p q r = cc

pub gives_first : (x : Make × View) (u : SheetScan) (ts : List Sheet) (t : Sheet) (rest : List Sheet) → ts ≡ t ∷ rest → entry_by x ≡ entry_for t → Ahead u.bytes.now u.at rest → Gives ts (Some x) u
gives_first x u ts t rest is same a = subst (λ l. Gives l (Some x) u) (sym is) (same, a)

pub stands_at : (u : SheetScan) (ts : List Sheet) → Ahead u.bytes.now u.at ts → Stands u
stands_at u ts a = record { sheets = ts; ahead = a }

-- going through the sheets that lie ahead gives each of them, in their order
pub goes_through : (ts : List Sheet) (s : SheetScan) → Ahead s.bytes.now s.at ts → YieldsList NextGives entry_by s (map entry_for ts)
goes_through ts s a = record { runs = each ts s a }
  where
    each : (ts : List Sheet) (s : SheetScan) → Ahead s.bytes.now s.at ts → AlwaysYields NextGives entry_by s (map entry_for ts)
    each [] s a = λ x j g. g [] a
    each (t ∷ ts) s a = (λ j g. g (t ∷ ts) a, λ x j g. let h = g (t ∷ ts) a in (h.0, each ts j h.1))

-- those of one make
same_make : (m k : Make) → is_make k m ≡ is_make m k
same_make FitMake FitMake = refl
same_make FitMake BarMake = refl
same_make FitMake LoadMake = refl
same_make BarMake FitMake = refl
same_make BarMake BarMake = refl
same_make BarMake LoadMake = refl
same_make LoadMake FitMake = refl
same_make LoadMake BarMake = refl
same_make LoadMake LoadMake = refl

pub picked : (m : Make) (ts : List Sheet) → filter (λ p. is_make p.0 m) (map entry_for ts) ≡ map entry_for (of_make m ts)
picked m [] = refl
picked m (t ∷ ts) =
    ap (λ b. cond b (entry_for t ∷ filter (λ p. is_make p.0 m) (map entry_for ts)) (filter (λ p. is_make p.0 m) (map entry_for ts))) (same_make m t.make) ∙ ap (λ l. cond (is_make m t.make) (entry_for t ∷ l) l) (picked m ts) ∙ picks (is_make m t.make)
  where
    picks : (b : Bool) → cond b (entry_for t ∷ map entry_for (of_make m ts)) (map entry_for (of_make m ts)) ≡ map entry_for (cond b (t ∷ of_make m ts) (of_make m ts))
    picks true = refl
    picks false = refl

pub picked_count : (m : Make) (ts : List Sheet) → length (filter (λ p. is_make p.0 m) (map entry_for ts)) ≡ length (of_make m ts)
picked_count m ts = ap length (picked m ts) ∙ length-map (of_make m ts) entry_for

-- sheet i of one make, where its make is dropped from what is given
pub picked_nth : (m : Make) (ts : List Sheet) (i : ℕ) (r : Option (Make × View)) (v : Option View) → option_map entry_by r ≡ slice_get (filter (λ p. is_make p.0 m) (map entry_for ts)) i → v ≡ option_map (λ x. x.1) r → seen v ≡ showing_of (slice_get (of_make m ts) i)
picked_nth m ts i r v e f = ap seen f ∙ seen_is r ∙ ap (option_map (λ p. p.1)) (e ∙ ap (λ l. slice_get l i) (picked m ts)) ∙ shows (of_make m ts) i
  where
    seen_is : (r : Option (Make × View)) → seen (option_map (λ x. x.1) r) ≡ option_map (λ p. p.1) (option_map entry_by r)
    seen_is None = refl
    seen_is (Some x) = refl

    shown : (o : Option Sheet) → option_map (λ p. p.1) (option_map entry_for o) ≡ showing_of o
    shown None = refl
    shown (Some u) = refl

    shows : (us : List Sheet) (i : ℕ) → option_map (λ p. p.1) (slice_get (map entry_for us) i) ≡ showing_of (slice_get us i)
    shows us i = ap (option_map (λ p. p.1)) (slice_get-map entry_for us i) ∙ shown (slice_get us i)
