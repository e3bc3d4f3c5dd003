-- Lines that are read, and the words that are written for them. Assumes nothing.
use Rattle.std.specs.Prelude.{◌≡◌, ℕ, ◌<◌, ◌≤◌, List, [], ◌∷◌, ◌++◌, map, length, Ok, Err, Option}
use Rattle.std.specs.List.{flat_map}
use Rattle.std.specs.Io.KnownBytes.{Consumes, Appends, IsAtEnd}
use Rattle.subject.specs.declared.call.Call.{Call}
use Rattle.subject.specs.Wording.{Reply, answer_line, denial_line}
use Rattle.subject.specs.Problem.{Problem}
use Rattle.subject.specs.Logs.{Log}
use Rattle.binder.specs.declared.binders.Binder.{Ghosts}
use Rattle.binder.specs.Meaning.{Binding}
use Rattle.commands.specs.Lines.{lines_of}
use Rattle.commands.specs.Parsing.{call_of}
use Rattle.session.specs.Law.{Led, Ran}
use Rattle.session.specs.declared.state.Session.{Session}

-- the calls that the lines of an input make: a line of another form makes none
abbrev pub calls_in : List ℕ → List (Option Call)
calls_in input = map call_of (lines_of input)

-- the words of a reply, and a line end
abbrev pub reply_line : Reply → List ℕ
reply_line (Ok a) = answer_line a ++ 10 ∷ []
reply_line (Err d) = denial_line d ++ 10 ∷ []

abbrev pub reply_lines : List Reply → List ℕ
reply_lines replies = flat_map reply_line replies

-- The lines of the input were answered, and the session s became t: the words are those of the replies, one for each line.
-- Whatever log has led to s, the calls and their replies obey the law of every log, with a plan memory of 48 bytes.
pub record Answered {B : Type 0} {bound : Ghosts B} (meaning : B → Binding) (input words : List ℕ) (s t : Session B bound) : Type 0 where
  pub replies : List Reply
  pub worded : words ≡ reply_lines replies
  pub each : length replies ≡ length (calls_in input)
  pub ran : (P : Problem) (L : Log) → Led meaning P L s → Ran meaning P L (calls_in input) replies (length replies) 48 t

-- An input that had some bytes has those left: the others are its first 65,536, or all where there are fewer. Their lines
-- were answered, and the bytes of the writer grew by the words.
pub record Served {B : Type 0} {bound : Ghosts B} (meaning : B → Binding) (had left was is : Option (List ℕ)) (s t : Session B bound) : Type 0 where
  pub input : List ℕ
  pub taken : Consumes had left input
  pub within : length input ≤ 65536
  pub whole : length input < 65536 → IsAtEnd left
  pub words : List ℕ
  pub written : Appends was is words
  pub answered : Answered meaning input words s t
