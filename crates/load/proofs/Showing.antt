-- What a load sheet does to a box that it is shown, in the words of a binder. Assumes nothing.
use Rattle.std.proofs.Common.{◌≡◌, ℕ, suc, ◌<◌, Bool, true, ◌&&◌, T, eqb, ltb, List, [], ◌∷◌, length, get_or, ℤ, ◌≤ℤ◌, Decides, sym, refl, ap, ◌∙◌, subst, arith}
use lib.Signed.{le_z}
use Rattle.std.proofs.lemmas.Int.{ints}
use Rattle.std.proofs.lemmas.Bool.{lt-ltb, eq-eqb, and_parts, and_from}
use Rattle.catalogue.specs.declared.view.View.{View}
use Rattle.catalogue.specs.Checks.{all}
use Rattle.catalogue.specs.Views.{Shown}
use Rattle.boxes.specs.Boxes.{Fits}
use Rattle.boxes.proofs.Bits.{open_low}
use Rattle.binder.specs.Meaning.{Held, Shown as ShownBox}
use Rattle.sheets.specs.Closing.{Narrowed, shorter}
use Rattle.sheets.specs.Tables.{shown_at}
use Rattle.sheets.specs.Rules.{is_list}
use Rattle.sheets.proofs.Narrowing.{BoxShown, shown_by_masks}
use Rattle.sheets.proofs.Scopes.{GoodScope}
use Rattle.load.specs.Joins.{weigh}
use Rattle.load.specs.Sums.{sums}
use Rattle.load.specs.Weights.{weighs, Supported, Supports}
use Rattle.load.specs.Loads.{keeps, loading}
use Rattle.load.specs.Sound.{scope_there, is_true}

decides_le : (a b : ℤ) → Decides (le_z a b) (a ≤ℤ b)
decides_le a b = (λ e. grind (arith, ints), λ h. grind (arith, ints))

low_all : (l : List ℕ) → ((p : ℕ) → p < length l → get_or l p 0 < 32) → all (λ o. ltb o 32) l ≡ true
low_all [] f = refl
low_all (o ∷ l) f =
    and_from (ltb o 32) (all (λ o. ltb o 32) l) (lt-ltb o 32 (f 0 (omega arith))) (low_all l (λ p h. f (suc p) (omega arith)))

-- a list that fits a box is one of the scope
fits_list : (b scope l : List ℕ) → Fits b scope l → is_list (length scope) l ≡ true
fits_list b scope l f =
    let long = f.long in
    and_from (eqb (length l) (length scope)) (all (λ o. ltb o 32) l) (eq-eqb (length l) (length scope) long)
    (low_all l (λ p h. open_low b (get_or scope p 0) (get_or l p 0) (f.each p (omega arith))))

module _ (v : Shown) (table : List (List ℤ)) (l : List ℕ) where
  keeps_from : is_list (length v.scope) l ≡ true → weigh sums (weighs table) l ≤ℤ v.«cap» → keeps v table l ≡ true
  unfolding keeps
  keeps_from e h = and_from (is_list (length v.scope) l) (le_z (weigh sums (weighs table) l) v.«cap») e ((decides_le (weigh sums (weighs table) l) v.«cap»).1 h)

  keeps_within : keeps v table l ≡ true → weigh sums (weighs table) l ≤ℤ v.«cap»
  unfolding keeps
  keeps_within e = (decides_le (weigh sums (weighs table) l) v.«cap»).0 (and_parts (is_list (length v.scope) l) (le_z (weigh sums (weighs table) l) v.«cap») e).1

true_is : (b : Bool) → b ≡ true → T b
true_is b e = subst T (sym e) tt

module _ (views : List View) (n : ℕ) (tables : List (List (List ℤ))) (marks s : ℕ) (there : s < n) (good : GoodScope (shown_at views s).scope) (b c masks : List ℕ) where
  same : (loading views n tables marks).scope s ≡ (shown_at views s).scope
  same = scope_there views n tables marks s there

  held_from : (p o : ℕ) → Supported (get_or tables s []) (shown_at views s).«cap» ((loading views n tables marks).scope s) b p o → Held (loading views n tables marks) b s p o
  held_from p o k =
      let here = keeps (shown_at views s) (get_or tables s []) k.list in
      let list : is_list (length (shown_at views s).scope) k.list ≡ true = ap (λ x. is_list (length x) k.list) (sym same) ∙ fits_list b ((loading views n tables marks).scope s) k.list k.fits in
      record {
        list = k.list;
        keeps = true_is (ltb s n && here) (and_from (ltb s n) here (lt-ltb s n there) (keeps_from (shown_at views s) (get_or tables s []) k.list list k.within));
        fits = k.fits;
        holds = k.holds;
      }

  from_held : (p o : ℕ) → Held (loading views n tables marks) b s p o → Supported (get_or tables s []) (shown_at views s).«cap» ((loading views n tables marks).scope s) b p o
  from_held p o k =
      let here = keeps (shown_at views s) (get_or tables s []) k.list in
      let kept-it : here ≡ true = (and_parts (ltb s n) here (is_true (ltb s n && here) k.keeps)).1 in
      record { list = k.list; within = keeps_within (shown_at views s) (get_or tables s []) k.list kept-it; fits = k.fits; holds = k.holds }

  box_shown : Supports (get_or tables s []) (shown_at views s).«cap» ((loading views n tables marks).scope s) b masks → Narrowed b c ((loading views n tables marks).scope s) masks (length ((loading views n tables marks).scope s)) → BoxShown (loading views n tables marks) s b c
  box_shown k h =
      shown_by_masks (loading views n tables marks) s b c masks
      (subst GoodScope (sym same) good).apart
      (record { sound = λ p o l is_open bit. held_from p o (k.sound p o l bit); complete = λ p o l held. k.complete p o l (from_held p o held) })
      h

  -- as many positions as the scope has
  all_positions : length masks ≡ 8 → shorter (shown_at views s).scope masks ≡ length (shown_at views s).scope
  all_positions long = let short = good.short in omega arith

  pub shown : Supports (get_or tables s []) (shown_at views s).«cap» (shown_at views s).scope b masks → Narrowed b c (shown_at views s).scope masks (shorter (shown_at views s).scope masks) → ShownBox (loading views n tables marks) (loading views n tables marks) s b c
  shown k h =
      let whole = subst (Narrowed b c (shown_at views s).scope masks) (all_positions k.long) h in
      let done = box_shown
      (subst (λ (x : List ℕ). Supports (get_or tables s []) (shown_at views s).«cap» x b masks) (sym same) k)
      (subst (λ (x : List ℕ). Narrowed b c x masks (length x)) (sym same) whole) in
      record {
        supported = done.supported;
        spared = done.spared;
        elsewhere = done.elsewhere;
        only_closes = done.only_closes;
        still = λ l t f. t;
        none_added = λ l t. t;
        others = λ t ne l. refl;
        sheets = record { count = refl; scope = λ t. refl };
        marks = refl;
        marked = λ i t l. refl;
      }
