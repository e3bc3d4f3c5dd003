-- A box split in two on the stack of an exploration. Assumes nothing.
use Rattle.std.specs.Prelude.{◌≡◌, ℕ, suc, ◌<◌, ◌≤◌, T, ◌≢◌, ◌↔◌}
use Rattle.subject.specs.Boxes.{Box}
use Rattle.boxes.specs.Boxes.{Bit}
use Rattle.explore.specs.Narrow.{Sole}

-- C is split at its lowest slot with several open options and the lowest of these: with that option alone there it
-- is box i + 1 of J, without that option box i. The boxes below i are those of K. Of both parts the slot has lost options;
-- the slots that others have lost options of are A before and B after.
pub record Split (K J : ℕ → Box) (A B : ℕ → ℕ) (i : ℕ) (C : Box) : Type 0 where
  pub slot : ℕ
  pub option : ℕ
  pub sole : (s : ℕ) → s < slot → Sole C s
  pub here : T (C slot option)
  pub lowest : (o : ℕ) → T (C slot o) → option ≤ o
  pub other : ℕ
  pub apart : other ≢ option
  pub also : T (C slot other)
  pub below : (j : ℕ) → j < i → J j ≡ K j
  pub rest : (s o : ℕ) → T (J i s o) ↔ (T (C s o) × ((s ≡ slot) × (o ≡ option) → ⊥))
  pub first : (s o : ℕ) → T (J (suc i) s o) ↔ (T (C s o) × ((s ≡ slot) × (o ≢ option) → ⊥))
  pub lost_below : (j : ℕ) → j < i → B j ≡ A j
  pub lost_rest : Bit (B i) slot
  pub lost_first : Bit (B (suc i)) slot
