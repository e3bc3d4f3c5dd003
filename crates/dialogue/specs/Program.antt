-- What the program writes of a file and an input. Assumes nothing.
use Rattle.std.specs.Prelude.{◌≡◌, ℕ, ◌<◌, ◌≤◌, List, [], ◌∷◌, ◌++◌, length, take, None, Ok, Err, Option, Result, IfSome, slice_index_or}
use Rattle.std.specs.Io.KnownBytes.{Consumes, Appends, IsAtEnd, Keeps}
use Rattle.subject.specs.declared.denial.Denial.TheVariants.{NotPossible}
use Rattle.subject.specs.Wording.{Reply}
use Rattle.subject.specs.Boxes.{Box}
use Rattle.catalogue.specs.declared.counts.Counts.{Counts}
use Rattle.catalogue.specs.declared.fault.Fault.{Fault}
use Rattle.catalogue.specs.Verdict.{verdict}
use Rattle.catalogue.specs.Wording.{counts_line, fault_line}
use Rattle.plain.specs.Plain.{problem_in}
use Rattle.session.specs.Runs.{logged, Fitting}
use Rattle.session.specs.Law.{Law}
use Rattle.dialogue.specs.Talk.{calls_in, reply_lines}

-- the first 65,536 bytes of an input, or all where there are fewer; of one whose bytes are not known, some as many
abbrev pub FirstBytes : Option (List ℕ) → List ℕ → Type 0
FirstBytes known bytes = (length bytes ≤ 65536) × IfSome known (λ xs. bytes ≡ take 65536 xs)

-- The text has a line that says how much the catalogue holds, and then a line for each line of the input: the words of the
-- reply. The log that the calls and their replies come to, for a planner that was just opened on the problem that the
-- catalogue poses and with a plan memory of 48 bytes, obeys the law of every log, with some box for the planner's: the program
-- shows no box. A line was not possible exactly where its reply says so.
pub record Talked (file : List ℕ) (counts : Counts) (input text : List ℕ) : Type 0 where
  pub replies : List Reply
  pub worded : text ≡ (counts_line counts ++ 10 ∷ []) ++ reply_lines replies
  pub each : length replies ≡ length (calls_in input)
  pub box : Box
  pub law : Law (problem_in file) (logged 48 (calls_in input) replies (length replies) []) box
  pub fitting : (i : ℕ) → i < length replies → Fitting (slice_index_or (calls_in input) i None) (slice_index_or replies i (Err NotPossible)) (logged 48 (calls_in input) replies i [])

-- of an accepted file that, and of any other a line with its fault
abbrev pub TextOf : Result Counts Fault → List ℕ → List ℕ → List ℕ → Type 0
TextOf (Ok counts) file input text = Talked file counts input text
TextOf (Err fault) file input text = text ≡ fault_line fault ++ 10 ∷ []

-- what is left of an input that had some bytes: where the file was accepted what lies behind those that were read, and else all
abbrev pub LeftOf : Result Counts Fault → List ℕ → Option (List ℕ) → Option (List ℕ) → Type 0
LeftOf (Ok counts) input had left = Consumes had left input × (length input < 65536 → IsAtEnd left)
LeftOf (Err fault) input had left = Keeps had left

-- What was written of a file, and of the first bytes of an input that had some and has some left. Where nothing was read the
-- text says nothing of them.
pub record Told (file : List ℕ) (had left was is : Option (List ℕ)) : Type 0 where
  pub input : List ℕ
  pub first : FirstBytes had input
  pub text : List ℕ
  pub written : Appends was is text
  pub says : TextOf (verdict file) file input text
  pub leaves : LeftOf (verdict file) input had left
