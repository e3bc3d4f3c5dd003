-- What a binder calls held, in the words of a problem. Assumes nothing.
use Rattle.std.specs.Prelude.{ℕ, ◌↔◌, List}
use Rattle.subject.specs.Problem.{Problem}
use Rattle.subject.specs.Boxes.{Supports}
use Rattle.boxes.specs.Boxes.{opens}
use Rattle.binder.specs.Meaning.{Binding, Held}

-- the problem of slots with so many options and of a binder's sheets, each with what it keeps now as its rule
abbrev pub posed_now : List ℕ → Binding → Problem
posed_now sizes m = record { sizes = sizes; sheets = m.count; scope = m.scope; admits = m.kept }

-- a kept list that fits the cells holds an option exactly where the sheet of that problem supports it in their box
abbrev pub HeldIsSupported : Type 0
HeldIsSupported = (m : Binding) (sizes b : List ℕ) (s p o : ℕ) → Held m b s p o ↔ Supports (posed_now sizes m) (opens b) s p o
