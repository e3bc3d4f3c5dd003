-- The worked examples, case by case. Assumes nothing.
use Rattle.std.specs.Prelude.{◌≡◌, ℕ, List, [], ◌∷◌, reverse, pos}
use Rattle.catalogue.specs.Writing.{written}
use Rattle.subject.specs.Problem.{Problem, Real}
use Rattle.subject.specs.Decisions.{Decision, tried, struck, OpenCount}
use Rattle.subject.specs.Logs.{try, strike, back, Refuses, Standing}
use Rattle.subject.specs.Law.{Lawful}
use Rattle.plain.specs.Plain.{problem_in}
use Rattle.examples.specs.Claims.{Looks, Dry, Plans}
use Rattle.examples.specs.Session.{session}
use Rattle.examples.specs.Samples.{asked, sample, sample_file, nothing_fits, nothing_barred, first_barred, both_barred, loaded}

-- the sample: what is open, and which plans there are
pub record SampleCases (P : Problem) : Type 0 where
  -- at first 8 options are open, and looks at the slots show 3, 7 and 7
  pub opened : OpenCount P [] 8 × Looks P [] (3 ∷ 7 ∷ 7 ∷ [])
  -- a try of option 0 of slot 0 leaves 3 options open, and looks show 1, 1 and 1
  pub tried_stands : Standing P (try 0 0 ∷ []) (tried 0 0 ∷ [])
  pub tried_opens : OpenCount P (tried 0 0 ∷ []) 3 × Looks P (tried 0 0 ∷ []) (1 ∷ 1 ∷ 1 ∷ [])
  -- going back leaves no decision standing, so that what was open at first is open again
  pub back_stands : Standing P (back ∷ try 0 0 ∷ []) []
  -- with option 1 of slot 1 struck instead, 6 options are open, and looks show 3, 5 and 5
  pub struck_stands : Standing P (strike 1 1 ∷ []) (struck 1 1 ∷ [])
  pub struck_opens : OpenCount P (struck 1 1 ∷ []) 6 × Looks P (struck 1 1 ∷ []) (3 ∷ 5 ∷ 5 ∷ [])
  -- the plans are 0 0 0, 1 1 1 and 1 2 2, in this order
  pub plans : Plans P [] ((0 ∷ 0 ∷ 0 ∷ []) ∷ (1 ∷ 1 ∷ 1 ∷ []) ∷ (1 ∷ 2 ∷ 2 ∷ []) ∷ [])
  -- with option 1 of slot 1 struck they are 0 0 0 and 1 2 2
  pub struck_plans : Plans P (struck 1 1 ∷ []) ((0 ∷ 0 ∷ 0 ∷ []) ∷ (1 ∷ 2 ∷ 2 ∷ []) ∷ [])
  -- in the session every call gets the answer that the law of logs asks; a log has its newest entry first
  pub session_lawful : Lawful P (reverse session)

-- small catalogues, each of one sheet
pub record SheetCases : Type 0 where
  -- a fit sheet without rows leaves nothing open, also in the slot that it does not name
  pub fit_without_rows : Dry (asked nothing_fits) []
  -- a bar sheet without rows closes nothing
  pub bar_without_rows : OpenCount (asked nothing_barred) [] 4 × Looks (asked nothing_barred) [] (3 ∷ 3 ∷ [])
  -- a bar sheet that bars option 0 of two leaves the other, one that bars both leaves nothing
  pub bars_one : OpenCount (asked first_barred) [] 1 × Looks (asked first_barred) [] (2 ∷ [])
  pub bars_both : Dry (asked both_barred) []
  -- a load is met up to its cap and not beyond: 500 - 100 is within 400, and not within 399
  pub within_cap : OpenCount (asked (loaded (pos 400))) [] 3 × Looks (asked (loaded (pos 400))) [] (3 ∷ 2 ∷ [])
  pub beyond_cap : OpenCount (asked (loaded (pos 399))) [] 2 × Looks (asked (loaded (pos 399))) [] (1 ∷ 2 ∷ [])

-- while nothing is open, a try of an option that its slot has is refused by 23
pub record DryCases : Type 0 where
  pub always : (P : Problem) (D : List Decision) (s o : ℕ) → Dry P D → Real P s o → Refuses P D (try s o) 23
  pub fit_without_rows : Refuses (asked nothing_fits) [] (try 1 1) 23
  pub bars_both : Refuses (asked both_barred) [] (try 0 0) 23

-- all of them; the sample stands in its file byte by byte, and is written as that
pub record WorkedExamples : Type 0 where
  pub file : written sample ≡ sample_file
  pub sample : SampleCases (problem_in sample_file)
  pub sheets : SheetCases
  pub dry : DryCases
