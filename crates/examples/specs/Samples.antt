-- The small catalogues of the worked examples, and the problems that their files pose. Assumes nothing.
use Rattle.std.specs.Prelude.{ℕ, List, [], ◌∷◌, ℤ, pos, negsuc}
use Rattle.catalogue.specs.declared.make.Make.TheVariants.{Fit, Bar, Load}
use Rattle.catalogue.specs.Content.{Weight, Sheet, Content}
use Rattle.catalogue.specs.Writing.{written}
use Rattle.subject.specs.Problem.{Problem}
use Rattle.plain.specs.Plain.{problem_in}

-- the problem that the file of a catalogue poses
abbrev pub asked : Content → Problem
asked w = problem_in (written w)

-- a sheet of each make, by its scope and its rows or its cap and weights
abbrev pub fit_sheet : List ℕ → List (List ℕ) → Sheet
fit_sheet scope rows = record { make = Fit; scope = scope; «cap» = pos 0; rows = rows; weights = [] }

abbrev pub bar_sheet : List ℕ → List (List ℕ) → Sheet
bar_sheet scope rows = record { make = Bar; scope = scope; «cap» = pos 0; rows = rows; weights = [] }

abbrev pub load_sheet : List ℕ → ℤ → List Weight → Sheet
load_sheet scope most weights = record { make = Load; scope = scope; «cap» = most; rows = []; weights = weights }

abbrev pub weighs : ℕ → ℕ → ℤ → Weight
weighs p o z = record { position = p; option = o; amount = z }

-- Slots of 2, 3 and 3 options. Slots 0 and 1 may read 00, 01, 11 or 12; slots 1 and 2 may read 00, 11 or 22; slots 0
-- and 2 may not read 01.
abbrev pub sample : Content
sample = record {
  options = 2 ∷ 3 ∷ 3 ∷ [];
  sheets =
      fit_sheet (0 ∷ 1 ∷ []) ((0 ∷ 0 ∷ []) ∷ (0 ∷ 1 ∷ []) ∷ (1 ∷ 1 ∷ []) ∷ (1 ∷ 2 ∷ []) ∷ []) ∷
      fit_sheet (1 ∷ 2 ∷ []) ((0 ∷ 0 ∷ []) ∷ (1 ∷ 1 ∷ []) ∷ (2 ∷ 2 ∷ []) ∷ []) ∷
      bar_sheet (0 ∷ 2 ∷ []) ((0 ∷ 1 ∷ []) ∷ []) ∷ [];
}

-- its file, byte by byte
abbrev pub sample_file : List ℕ
sample_file =
    1 ∷ 2 ∷ 1 ∷ 3 ∷ 1 ∷ 3 ∷
    2 ∷ 2 ∷ 0 ∷ 1 ∷ 255 ∷ 255 ∷ 255 ∷ 255 ∷ 255 ∷ 255 ∷
    5 ∷ 0 ∷ 0 ∷ 255 ∷ 255 ∷ 255 ∷ 255 ∷ 255 ∷ 255 ∷
    5 ∷ 0 ∷ 1 ∷ 255 ∷ 255 ∷ 255 ∷ 255 ∷ 255 ∷ 255 ∷
    5 ∷ 1 ∷ 1 ∷ 255 ∷ 255 ∷ 255 ∷ 255 ∷ 255 ∷ 255 ∷
    5 ∷ 1 ∷ 2 ∷ 255 ∷ 255 ∷ 255 ∷ 255 ∷ 255 ∷ 255 ∷
    2 ∷ 2 ∷ 1 ∷ 2 ∷ 255 ∷ 255 ∷ 255 ∷ 255 ∷ 255 ∷ 255 ∷
    5 ∷ 0 ∷ 0 ∷ 255 ∷ 255 ∷ 255 ∷ 255 ∷ 255 ∷ 255 ∷
    5 ∷ 1 ∷ 1 ∷ 255 ∷ 255 ∷ 255 ∷ 255 ∷ 255 ∷ 255 ∷
    5 ∷ 2 ∷ 2 ∷ 255 ∷ 255 ∷ 255 ∷ 255 ∷ 255 ∷ 255 ∷
    3 ∷ 2 ∷ 0 ∷ 2 ∷ 255 ∷ 255 ∷ 255 ∷ 255 ∷ 255 ∷ 255 ∷
    5 ∷ 0 ∷ 1 ∷ 255 ∷ 255 ∷ 255 ∷ 255 ∷ 255 ∷ 255 ∷
    7 ∷ []

-- two slots of two options each, and one sheet
abbrev pub two_by_two : Sheet → Content
two_by_two t = record { options = 2 ∷ 2 ∷ []; sheets = t ∷ [] }

-- a fit sheet and a bar sheet without rows
abbrev pub nothing_fits : Content
nothing_fits = two_by_two (fit_sheet (0 ∷ []) [])

abbrev pub nothing_barred : Content
nothing_barred = two_by_two (bar_sheet (0 ∷ 1 ∷ []) [])

-- one slot of two options, of which a bar sheet bars option 0, or both
abbrev pub first_barred : Content
first_barred = record { options = 2 ∷ []; sheets = bar_sheet (0 ∷ []) ((0 ∷ []) ∷ []) ∷ [] }

abbrev pub both_barred : Content
both_barred = record { options = 2 ∷ []; sheets = bar_sheet (0 ∷ []) ((0 ∷ []) ∷ (1 ∷ []) ∷ []) ∷ [] }

-- the options of slot 0 weigh 300 and 500, those of slot 1 weigh 200 and -100, and all together at most so much
abbrev pub loaded : ℤ → Content
loaded most = two_by_two (load_sheet (0 ∷ 1 ∷ []) most (weighs 0 0 (pos 300) ∷ weighs 0 1 (pos 500) ∷ weighs 1 0 (pos 200) ∷ weighs 1 1 (negsuc 99) ∷ []))
