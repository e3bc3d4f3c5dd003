-- What a turn of an exploration does, whatever is explored. Assumes nothing.
use Rattle.std.specs.Prelude.{◌≡◌, ℕ, ◌-◌, ◌<◌, ◌≤◌, List}
use Rattle.subject.specs.Boxes.{Box}
use Rattle.boxes.specs.Boxes.{opens, Some, Two}
use Rattle.binder.specs.Meaning.{Binding, Noted}
use Rattle.settle.specs.Settled.{Settled}
use Rattle.explore.specs.Laid.{Laid}
use Rattle.explore.specs.Rewound.{Rewound}
use Rattle.explore.specs.Split.{Split as SplitAt}
use Rattle.explore.specs.declared.outcome.Outcome.{Outcome}
use Rattle.explore.specs.declared.outcome.Outcome.TheVariants.{Empty, Dry, Split, Found}

-- the binder o is k with one mark more, or k where 72 stand
pub record Marked (k o : Binding) : Type 0 where
  pub noted : k.marks < 72 → Noted k o
  pub full : 72 ≤ k.marks → o ≡ k

-- What is done once the next box, box i, was settled to the cells c, by which the binder became k; then it is o. Where slot 0
-- has no open option left, or no slot has two, the boxes stay and the binder's newest mark is undone, if one stands; the plan
-- that is found has the lowest open option of each slot. Else the box is split, and the binder is marked. The boxes and
-- their lost slots are K and A before, J and B after.
abbrev pub Does : Outcome → List ℕ → Binding → Binding → (ℕ → Box) → (ℕ → Box) → (ℕ → ℕ) → (ℕ → ℕ) → ℕ → Type 0
Does Empty c k o K J A B i = ⊥
Does Dry c k o K J A B i = (Some c 0 → ⊥) × (J ≡ K) × (B ≡ A) × Rewound k o 1
Does Split c k o K J A B i = Some c 0 × SplitAt K J A B i (opens c) × Marked k o
Does (Found p) c k o K J A B i = Some c 0 × ((s : ℕ) → Two c s → ⊥) × Laid c p 48 × (J ≡ K) × (B ≡ A) × Rewound k o 1

-- A turn that finds a box, the uppermost of the first K, settles it from the cells b to the cells c, by which the binder m
-- becomes k. Then the box is dropped or split, by which the binder becomes o. So the sheets and scopes are the same in every
-- case. Of the marks the newest is undone, if one stands, or one more stands, unless 72 do; all others are as before.
-- Left free is what settling leaves free: after a split, and after a box was dropped where no mark stood, which of the
-- lists that do not fit c are kept; and how far the box is closed where a sheet's set is wrong or a sheet that names no lost
-- slot did not hold what was open.
pub record TurnDone (r : Outcome) (m o : Binding) (masks : List ℕ) (n : ℕ) (K J : ℕ → Box) (A B : ℕ → ℕ) (top : ℕ) : Type 0 where
  pub some : 0 < top
  pub b : List ℕ
  pub c : List ℕ
  pub k : Binding
  pub next : opens b ≡ K (top - 1)
  pub settled : Settled m k masks (A (top - 1)) n b c
  pub does : Does r c k o K J A B (top - 1)
