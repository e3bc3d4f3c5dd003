-- A showing by the counted support, and a fresh binder, in the words of a binder. Assumes nothing.
use Rattle.std.proofs.Common.{◌≡◌, ℕ, ◌/◌, ◌<◌, ◌≤◌, Bool, true, ◌&&◌, T, ltb, List, [], map, length, get_or, sym, refl, ap, ◌∙◌, subst, ⊎_elim, arith}
use Rattle.std.proofs.Math.Bool.{Bool-set}
use Rattle.std.proofs.lemmas.Bool.{lt-ltb, le-ltb, cases_lt, cond-false, and_left}
use Rattle.boxes.specs.Boxes.{Open, Fits}
use Rattle.catalogue.specs.declared.counts.Counts.{Counts}
use Rattle.catalogue.specs.declared.make.Make.TheVariants.{Bar as BarMake}
use Rattle.catalogue.specs.declared.view.View.{View}
use Rattle.catalogue.specs.Content.{Sheet}
use Rattle.catalogue.specs.Law.{Octets}
use Rattle.catalogue.specs.Verdict.{content, accepts}
use Rattle.catalogue.specs.Views.{is_make, Shown as Seen, showing}
use Rattle.binder.specs.Meaning.{Binding, Held, Shown}
use Rattle.sheets.specs.declared.sheet.Sheet.{Sheet as TakenSheet}
use Rattle.sheets.specs.Opened.{shown_of}
use Rattle.sheets.specs.Closing.{Narrowed, shorter}
use Rattle.sheets.specs.Rules.{Fresh, scope_at, admits_at}
use Rattle.sheets.specs.Tables.{Taken, shown_in, shown_at, sheets_in}
use Rattle.sheets.proofs.Chosen.{taken_of, taken_sheets}
use Rattle.sheets.proofs.Narrowing.{Masks, BoxShown, shown_by_masks}
use Rattle.sheets.proofs.Tabled.{at, none_at, sheets_long}
use Rattle.binder.specs.declared.marks.Marks.{Marks}
use Rattle.bar.specs.declared.Bar.{Bar}
use Rattle.bar.specs.Tally.{Spared, Backs}
use Rattle.bar.specs.Bars.{keeps, barring}
use Rattle.bar.specs.Proper.{GoodBar, good_at, scope_there, is_true}
use Rattle.bar.proofs.Rows.{free_kept, kept_free, keeps_admits}

is_t : (b : Bool) → b ≡ true → T b
is_t b e = subst T (sym e) tt

-- a sheet that is there keeps what its view says
kept_there : (views : List View) (n marks s : ℕ) (l : List ℕ) → s < n → (barring views n marks).kept s l ≡ keeps (shown_at views s) l
kept_there views n marks s l h = ap (λ t. t && keeps (shown_at views s) l) (lt-ltb s n h)

-- the masks of what lists spare are those of what kept lists hold
module _ (m : Binding) (s : ℕ) (v : Seen) (scope : m.scope s ≡ v.scope) (kept : (l : List ℕ) → m.kept s l ≡ keeps v l) (b : List ℕ) where
  spared_held : (p o : ℕ) → Spared b v.scope v.entries (length v.entries / 9) p o → Held m b s p o
  spared_held p o k = record {
    list = k.list;
    keeps = is_t (m.kept s k.list) (kept k.list ∙ free_kept b v k.list k.fits k.free);
    fits = subst (λ (x : List ℕ). Fits b x k.list) (sym scope) k.fits;
    holds = k.holds;
  }

  held_spared : (p o : ℕ) → Held m b s p o → Spared b v.scope v.entries (length v.entries / 9) p o
  held_spared p o k = record {
    list = k.list;
    fits = subst (λ (x : List ℕ). Fits b x k.list) scope k.fits;
    holds = k.holds;
    free = kept_free v k.list (sym (kept k.list) ∙ is_true (m.kept s k.list) k.keeps);
  }

  backs_masks : (masks : List ℕ) → Backs b v.scope v.entries (length v.entries / 9) masks → Masks m s b masks
  backs_masks masks k = record {
    sound = λ p o h here bit. spared_held p o
        (k.sound p o (subst (λ (x : List ℕ). p < length x) scope h) (subst (λ (x : List ℕ). Open b (get_or x p 0) o) scope here) bit);
    complete = λ p o h held. k.complete p o (subst (λ (x : List ℕ). p < length x) scope h) (held_spared p o held);
  }

  box_shown : (c masks : List ℕ) → GoodBar v → length masks ≡ 8 → Backs b v.scope v.entries (length v.entries / 9) masks
      → Narrowed b c v.scope masks (shorter v.scope masks) → BoxShown m s b c
  box_shown c masks good eight k h =
      let all : shorter v.scope masks ≡ length v.scope = omega (arith, good.scope.short) in
      shown_by_masks m s b c masks
      (subst (λ (x : List ℕ). (p q : ℕ) → p < q → q < length x → get_or x p 0 ≡ get_or x q 0 → ⊥) (sym scope) good.scope.apart)
      (backs_masks masks k)
      (subst (λ (x : List ℕ). Narrowed b c x masks (length x)) (sym scope) (subst (λ (j : ℕ). Narrowed b c v.scope masks j) all h))

-- a showing changes the box alone
pub shown : (views : List View) (n marks s : ℕ) (v : Seen) → s < n → v ≡ shown_at views s → GoodBar v → (b c masks : List ℕ) → length masks ≡ 8
    → Backs b v.scope v.entries (length v.entries / 9) masks → Narrowed b c v.scope masks (shorter v.scope masks)
    → Shown (barring views n marks) (barring views n marks) s b c
shown views n marks s v l e good b c masks eight k h =
    let box = box_shown (barring views n marks) s v (scope_there views n marks s l ∙ ap (λ x. x.scope) (sym e))
    (λ x. kept_there views n marks s x l ∙ ap (λ y. keeps y x) (sym e)) b c masks good eight k h in
    record {
      supported = box.supported;
      spared = box.spared;
      elsewhere = box.elsewhere;
      only_closes = box.only_closes;
      still = λ x t f. t;
      none_added = λ x t. t;
      others = λ t ne x. refl;
      sheets = record { count = refl; scope = λ t. refl };
      marks = refl;
      marked = λ i t x. refl;
    }

-- what holds of a sheet that is taken out of a binder
pub good_sheet : (x : Bar) (t : TakenSheet) (s : ℕ) → (s < x.sheets.count) × (shown_of t ≡ shown_at x.sheets.views s) → GoodBar (shown_of t)
good_sheet x t s h = subst GoodBar (sym h.1) (good_at x.sheets.make x.sheets.views x.sheets.count x.bars x.sheets.taken x.sheets.few x.sheets.long s h.0)

-- a binder with the same marks is the same
pub same_marks : (x : Bar) (marks : Marks) (bars : is_make BarMake x.sheets.make ≡ true) → marks ≡ x.marks → ◌≡◌ {A = Bar} (record { sheets = x.sheets; marks = marks; bars = bars }) x
same_marks x marks bars e =
    let f : Marks → Bar = λ m. record { sheets = x.sheets; marks = m; bars = bars } in
    let g : is_make BarMake x.sheets.make ≡ true → Bar = λ b. record { sheets = x.sheets; marks = x.marks; bars = b } in
    ap f e ∙ ap g (Bool-set _ _ bars x.bars)

-- The views of a table that shows the bar sheets of a catalogue mean just these.
module _ (views : List View) (n : ℕ) (t : Taken BarMake views n) (whole : n ≤ length views) where
  scopes : (s : ℕ) → (barring views n 0).scope s ≡ scope_at t.sheets s
  scopes s = ⊎_elim
      (λ l. let a = at BarMake views n t s l whole in scope_there views n 0 s l ∙ ap (λ v. v.scope) a.shows ∙ sym a.scope)
      (λ h. cond-false (ltb s n) (shown_at views s).scope [] (le-ltb s n h) ∙ sym (none_at t.sheets s (omega (arith, sheets_long BarMake views n t whole))).scope)
      (cases_lt s n)

  rules : (s : ℕ) (l : List ℕ) → (barring views n 0).kept s l ≡ admits_at t.sheets s l
  rules s l = ⊎_elim
      (λ h. let a = at BarMake views n t s h whole in
      kept_there views n 0 s l h ∙ ap (λ v. keeps v l) a.shows ∙ keeps_admits t.options a.sheet a.good a.make l ∙ sym (a.admits l))
      (λ h. and_left (ltb s n) (keeps (shown_at views s) l) (le-ltb s n h) ∙ sym ((none_at t.sheets s (omega (arith, sheets_long BarMake views n t whole))).admits l))
      (cases_lt s n)

  fresh_taken : Fresh t.sheets (barring views n 0)
  fresh_taken = record { count = sym (sheets_long BarMake views n t whole); scope = scopes; kept = rules; marks = refl }

pub fresh : (bs : List ℕ) (c : Counts) → accepts bs c ≡ true → Octets bs → (views : List View) (n marks : ℕ) → shown_in views n ≡ map showing (sheets_in (content bs) BarMake) → n ≤ length views → marks ≡ 0
    → Fresh (sheets_in (content bs) BarMake) (barring views n marks)
fresh bs c a o views n marks e whole none =
    subst (λ (k : ℕ). Fresh (sheets_in (content bs) BarMake) (barring views n k)) (sym none)
    (subst (λ (ts : List Sheet). Fresh ts (barring views n 0)) (taken_sheets bs c a o BarMake views n e) (fresh_taken views n (taken_of bs c a o BarMake views n e) whole))
