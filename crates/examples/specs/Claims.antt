-- What a worked example says of a problem while decisions stand. Assumes nothing.
use Rattle.std.specs.Prelude.{◌≡◌, ℕ, ◌^◌, ◌<◌, ◌↔◌, List, [], length, slice_index, slice_index_or}
use Rattle.subject.specs.Problem.{Problem}
use Rattle.subject.specs.Decisions.{Decision, Open}
use Rattle.subject.specs.Plans.{Plan, Meets, Before}
use Rattle.subject.specs.Logs.{Bit}

-- a look at slot s shows m, whose bits are the options that are open
abbrev pub Shows : Problem → List Decision → ℕ → ℕ → Type 0
Shows P D s m = (m < 2 ^ 32) × ((o : ℕ) → Bit m o ↔ Open P D s o)

-- looks at all slots, from slot 0 on, show these
pub record Looks (P : Problem) (D : List Decision) (shown : List ℕ) : Type 0 where
  pub long : length shown ≡ length P.sizes
  pub shows : (s : ℕ) → s < length P.sizes → Shows P D s (slice_index shown s)

-- no option of any slot is open
abbrev pub Dry : Problem → List Decision → Type 0
Dry P D = (s o : ℕ) → Open P D s o → ⊥

-- the plans that meet every sheet and every decision are just these, and stand in dictionary order
pub record Plans (P : Problem) (D : List Decision) (listed : List Plan) : Type 0 where
  pub meet : (i : ℕ) → i < length listed → Meets P D (slice_index_or listed i [])
  pub all : (p : Plan) → Meets P D p → (i : ℕ) × (i < length listed) × (slice_index_or listed i [] ≡ p)
  pub order : (i j : ℕ) → i < j → j < length listed → Before (slice_index_or listed i []) (slice_index_or listed j [])
