-- Binders of a catalogue's makes side by side mean all its sheets. Assumes nothing.
use Rattle.std.proofs.Common.{◌≡◌, ℕ, zero, suc, ◌+◌, ◌-◌, ◌<◌, ◌≤◌, Bool, true, false, cond, eqb, List, [], ◌∷◌, ◌++◌, length, Ok, Result, sym, refl, ap, ◌∙◌, subst, ⊎_elim, arith, length-append}
use Rattle.std.proofs.lemmas.Bool.{cases_lt, eq-eqb, cond-true}
use Rattle.catalogue.specs.declared.counts.Counts.{Counts}
use Rattle.catalogue.specs.declared.fault.Fault.{Fault}
use Rattle.catalogue.specs.declared.make.Make.{Make}
use Rattle.catalogue.specs.declared.make.Make.TheVariants.{Fit, Bar, Load}
use Rattle.catalogue.specs.Content.{Sheet, Content}
use Rattle.catalogue.specs.Verdict.{content, accepts}
use Rattle.catalogue.specs.Law.{Octets}
use Rattle.catalogue.specs.Views.{is_make, of_make}
use Rattle.catalogue.proofs.Held.{held}
use Rattle.sheets.specs.Tables.{sheets_in}
use Rattle.sheets.specs.Rules.{scope_at, admits_at, Fresh}
use Rattle.binder.specs.Meaning.{Binding, kept_first}
use Rattle.binder.specs.Joined.{Beside}
use Rattle.planner.specs.Opening.{slots_in, posed}
use Rattle.plain.specs.Plain.{sheets_of, problem_in}

-- ---- sheets of two lists in a row

scope_front : (ts us : List Sheet) (s : ℕ) → s < length ts → scope_at (ts ++ us) s ≡ scope_at ts s
scope_front [] us s h = absurd (omega arith)
scope_front (t ∷ ts) us zero h = refl
scope_front (t ∷ ts) us (suc s) h = scope_front ts us s (omega arith)

scope_back : (ts us : List Sheet) (s : ℕ) → length ts ≤ s → scope_at (ts ++ us) s ≡ scope_at us (s - length ts)
scope_back [] us s h = let e : s - 0 ≡ s = omega arith in ap (scope_at us) (sym e)
scope_back (t ∷ ts) us zero h = absurd (omega arith)
scope_back (t ∷ ts) us (suc s) h = let e : s - length ts ≡ suc s - suc (length ts) = omega arith in scope_back ts us s (omega arith) ∙ ap (scope_at us) e

admits_front : (ts us : List Sheet) (s : ℕ) (l : List ℕ) → s < length ts → admits_at (ts ++ us) s l ≡ admits_at ts s l
admits_front [] us s l h = absurd (omega arith)
admits_front (t ∷ ts) us zero l h = refl
admits_front (t ∷ ts) us (suc s) l h = admits_front ts us s l (omega arith)

admits_back : (ts us : List Sheet) (s : ℕ) (l : List ℕ) → length ts ≤ s → admits_at (ts ++ us) s l ≡ admits_at us (s - length ts) l
admits_back [] us s l h = let e : s - 0 ≡ s = omega arith in ap (λ i. admits_at us i l) (sym e)
admits_back (t ∷ ts) us zero l h = absurd (omega arith)
admits_back (t ∷ ts) us (suc s) l h = let e : s - length ts ≡ suc s - suc (length ts) = omega arith in admits_back ts us s l (omega arith) ∙ ap (λ i. admits_at us i l) e

-- with no mark a sheet keeps what it kept at first
first_kept : (m : Binding) → m.marks ≡ 0 → (s : ℕ) (l : List ℕ) → kept_first m s l ≡ m.kept s l
first_kept m e s l = cond-true (eqb m.marks 0) (m.kept s l) (m.marked 0 s l) (eq-eqb m.marks 0 e)

module _ (ts us : List Sheet) (a b m : Binding) (fa : Fresh ts a) (fb : Fresh us b) (few : length ts + length us ≤ 1024) (j : Beside a b m) where
  second : (s : ℕ) → length ts ≤ s → s ≡ a.count + (s - length ts)
  second s h = omega (arith, fa.count)

  -- two fresh binders side by side are a fresh one of both lists
  pub fresh_beside : Fresh (ts ++ us) m
  fresh_beside = record {
    count = j.count ∙ (let e = length-append ts us in omega (arith, fa.count, fb.count));
    scope = λ s. ⊎_elim
        (λ h. j.first_scope s (omega (arith, fa.count)) ∙ fa.scope s ∙ sym (scope_front ts us s h))
        (λ h. ap m.scope (second s h) ∙ j.second_scope (s - length ts) ∙ fb.scope (s - length ts) ∙ sym (scope_back ts us s h))
        (cases_lt s (length ts));
    kept = λ s l. ⊎_elim
        (λ h. j.first_kept s (omega (arith, fa.count)) l ∙ first_kept a fa.marks s l ∙ fa.kept s l ∙ sym (admits_front ts us s l h))
        (λ h. ap (λ i. m.kept i l) (second s h) ∙ j.second_kept (s - length ts) l ∙ first_kept b fb.marks (s - length ts) l ∙ fb.kept (s - length ts) l ∙ sym (admits_back ts us s l h))
        (cases_lt s (length ts));
    marks = j.marks;
  }

-- ---- a catalogue's sheets

made_few : (k : Make) (ts : List Sheet) → length (of_make k ts) ≤ length ts
made_few k [] = omega arith
made_few k (t ∷ ts) = go (is_make k t.make) (made_few k ts)
  where
    go : (b : Bool) → length (of_make k ts) ≤ length ts → length (cond b (t ∷ of_make k ts) (of_make k ts)) ≤ suc (length ts)
    go true h = omega arith
    go false h = omega arith

sheets_few : (r : Result Content Fault) (w : Content) → r ≡ Ok w → length w.sheets ≤ 64 → (k : Make) → length (sheets_in r k) ≤ 64
sheets_few r w e h k = subst (λ x. length (sheets_in x k) ≤ 64) (sym e) (omega (arith, made_few k w.sheets))

module _ (bytes : List ℕ) (c : Counts) (ok : accepts bytes c ≡ true) (octets : Octets bytes) where
  few : (k : Make) → length (sheets_in (content bytes) k) ≤ 64
  few k = let h = held bytes c ok octets in sheets_few (content bytes) h.list h.is h.sound.sheets k

  all_sheets : (f b l fb all : Binding) → Fresh (sheets_in (content bytes) Fit) f → Fresh (sheets_in (content bytes) Bar) b → Fresh (sheets_in (content bytes) Load) l
      → Beside f b fb → Beside fb l all → Fresh (sheets_of bytes) all
  unfolding sheets_of
  all_sheets f b l fb all ff fr fl one two =
      let first : Fresh (sheets_in (content bytes) Fit ++ sheets_in (content bytes) Bar) fb =
      fresh_beside (sheets_in (content bytes) Fit) (sheets_in (content bytes) Bar) f b fb ff fr (omega (arith, few Fit, few Bar)) one in
      let e = length-append (sheets_in (content bytes) Fit) (sheets_in (content bytes) Bar) in
      fresh_beside (sheets_in (content bytes) Fit ++ sheets_in (content bytes) Bar) (sheets_in (content bytes) Load) fb l all first fl (omega (arith, few Fit, few Bar, few Load)) two

  -- a fresh binder of all sheets poses the file's problem
  posed_fresh : (m : Binding) → Fresh (sheets_of bytes) m → posed (slots_in bytes) m ≡ problem_in bytes
  unfolding problem_in
  posed_fresh m f = λ i. record {
    sizes = slots_in bytes;
    sheets = f.count i;
    scope = λ k. f.scope k i;
    admits = λ k l. (first_kept m f.marks k l ∙ f.kept k l) i;
  }

  pub plain_problem : (f b l fb all : Binding) → Fresh (sheets_in (content bytes) Fit) f → Fresh (sheets_in (content bytes) Bar) b → Fresh (sheets_in (content bytes) Load) l
      → Beside f b fb → Beside fb l all → posed (slots_in bytes) all ≡ problem_in bytes
  plain_problem f b l fb all ff fr fl one two = posed_fresh all (all_sheets f b l fb all ff fr fl one two)
