-- The problem that a catalogue poses, and what the plain binder means. Assumes nothing.
use Rattle.std.specs.Prelude.{ℕ, List, ◌++◌, length}
use Rattle.catalogue.specs.declared.make.Make.TheVariants.{Fit, Bar, Load}
use Rattle.catalogue.specs.Content.{Sheet}
use Rattle.catalogue.specs.Verdict.{content}
use Rattle.sheets.specs.Tables.{sheets_in}
use Rattle.sheets.specs.Rules.{scope_at, admits_at}
use Rattle.subject.specs.Problem.{Problem}
use Rattle.binder.specs.Meaning.{Binding}
use Rattle.binder.specs.Joined as joining
use Rattle.binder.specs.declared.join.Join as joined
use Rattle.fit.specs.declared.Fit as fits
use Rattle.bar.specs.declared.Bar as bars
use Rattle.load.specs.declared.Load as loads
use Rattle.fit.specs.Meaning as fitting
use Rattle.bar.specs.Meaning as barring
use Rattle.load.specs.Calls as loading
use Rattle.planner.specs.Opening.{slots_in}

-- the sheets of a file, each once: fit sheets first, then bar sheets, then load sheets, each make in the file's order
unfoldable pub sheets_of : List ℕ → List Sheet
sheets_of bytes = (sheets_in (content bytes) Fit ++ sheets_in (content bytes) Bar) ++ sheets_in (content bytes) Load

-- the slots of a file, and its sheets with their scopes and rules
unfoldable pub problem_in : List ℕ → Problem
problem_in bytes = record {
  sizes = slots_in bytes;
  sheets = length (sheets_of bytes);
  scope = scope_at (sheets_of bytes);
  admits = admits_at (sheets_of bytes);
}

-- what a binder of the three makes means
abbrev pub meaning_of : joined.Join (joined.Join fits.Fit bars.Bar) loads.Load → Binding
meaning_of = joining.meaning_of (joining.meaning_of fitting.meaning_of barring.meaning_of) loading.meaning_of
