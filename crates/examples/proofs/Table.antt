-- The worked examples: each case computed by the reckoner, and made good by the one lemma. Assumes nothing.
use Rattle.std.proofs.Common.{◌≡◌, [], ◌∷◌, reverse, length, pos, sym, refl, subst}
use Rattle.catalogue.specs.Content.{Content}
use Rattle.sheets.specs.Rules.{scope_at, admits_at}
use Rattle.planner.specs.Opening.{slots_in}
use Rattle.plain.specs.Plain.{sheets_of, problem_in}
use Rattle.subject.specs.Problem.{Problem}
use Rattle.subject.specs.Decisions.{tried, struck}
use Rattle.subject.specs.Logs.{try, strike, back, try_shut}
use Rattle.examples.specs.Samples.{asked, sample, sample_file, nothing_fits, nothing_barred, first_barred, both_barred, loaded}
use Rattle.examples.specs.Session.{session}
use Rattle.examples.specs.Cases.{SampleCases, SheetCases, DryCases, WorkedExamples}
use Rattle.examples.proofs.Answering.{reckoning}
use Rattle.examples.proofs.Sound.{Claim, counting, looking, planning, drying, refusing, standing, logging, Says, Reckons, sound}

-- the slots of a catalogue, and its sheets in their order
abbrev posed : Content → Problem
posed w = record { sizes = w.options; sheets = length w.sheets; scope = scope_at w.sheets; admits = admits_at w.sheets }

-- which is what its file poses
reads_sample : problem_in sample_file ≡ posed sample
unfolding problem_in sheets_of slots_in
reads_sample = refl

sample_cases : SampleCases (posed sample)
unfolding reckoning
sample_cases =
    let say = sound (posed sample) in
    record {
      opened = (say (counting [] 8) (tt, refl), say (looking [] (3 ∷ 7 ∷ 7 ∷ [])) (tt, tt));
      tried_stands = say (standing (try 0 0 ∷ []) (tried 0 0 ∷ [])) (tt, refl);
      tried_opens = (say (counting (tried 0 0 ∷ []) 3) (tt, refl), say (looking (tried 0 0 ∷ []) (1 ∷ 1 ∷ 1 ∷ [])) (tt, tt));
      back_stands = say (standing (back ∷ try 0 0 ∷ []) []) (tt, refl);
      struck_stands = say (standing (strike 1 1 ∷ []) (struck 1 1 ∷ [])) (tt, refl);
      struck_opens = (say (counting (struck 1 1 ∷ []) 6) (tt, refl), say (looking (struck 1 1 ∷ []) (3 ∷ 5 ∷ 5 ∷ [])) (tt, tt));
      plans = say (planning [] ((0 ∷ 0 ∷ 0 ∷ []) ∷ (1 ∷ 1 ∷ 1 ∷ []) ∷ (1 ∷ 2 ∷ 2 ∷ []) ∷ [])) tt;
      struck_plans = say (planning (struck 1 1 ∷ []) ((0 ∷ 0 ∷ 0 ∷ []) ∷ (1 ∷ 2 ∷ 2 ∷ []) ∷ [])) tt;
      session_lawful = say (logging (reverse session)) (tt, refl);
    }

module _ (w : Content) (e : asked w ≡ posed w) where
  case : (c : Claim) → Reckons (posed w) c → Says (asked w) c
  case c r = subst (λ P. Says P c) (sym e) (sound (posed w) c r)

sheet_cases : SheetCases
unfolding reckoning problem_in sheets_of slots_in
sheet_cases =
    record {
      fit_without_rows = case nothing_fits refl (drying []) (tt, refl);
      bar_without_rows = (case nothing_barred refl (counting [] 4) (tt, refl), case nothing_barred refl (looking [] (3 ∷ 3 ∷ [])) (tt, tt));
      bars_one = (case first_barred refl (counting [] 1) (tt, refl), case first_barred refl (looking [] (2 ∷ [])) (tt, tt));
      bars_both = case both_barred refl (drying []) (tt, refl);
      within_cap = (case (loaded (pos 400)) refl (counting [] 3) (tt, refl), case (loaded (pos 400)) refl (looking [] (3 ∷ 2 ∷ [])) (tt, tt));
      beyond_cap = (case (loaded (pos 399)) refl (counting [] 2) (tt, refl), case (loaded (pos 399)) refl (looking [] (1 ∷ 2 ∷ [])) (tt, tt));
    }

dry_cases : DryCases
unfolding reckoning problem_in sheets_of slots_in
dry_cases =
    record {
      always = λ P D s o f r. try_shut r (f s o);
      fit_without_rows = case nothing_fits refl (refusing [] (try 1 1) 22) (tt, refl);
      bars_both = case both_barred refl (refusing [] (try 0 0) 22) (tt, refl);
    }

pub worked_examples_lem : WorkedExamples
worked_examples_lem = record { file = refl; sample = subst SampleCases (sym reads_sample) sample_cases; sheets = sheet_cases; dry = dry_cases }
