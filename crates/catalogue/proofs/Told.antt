-- What the accessors of a checked catalogue answer, from the list that its bytes are the writing of.
use Rattle.std.proofs.Common.{◌≡◌, ℕ, ◌+◌, ◌*◌, ◌<◌, ◌≤◌, List, length, get_or, Some, None, sym, ap, ◌∙◌, subst, arith}
use Rattle.std.proofs.lemmas.Option.{slice_get-get_or, slice_get_past}
use Rattle.catalogue.specs.declared.counts.Counts.{Counts}
use Rattle.catalogue.specs.Verdict.{content}
use Rattle.catalogue.specs.declared.sheet_scan.SheetScan.{SheetScan}
use Rattle.catalogue.specs.Views.{options_said}
use Rattle.catalogue.specs.Places.{Ahead}
use Rattle.catalogue.specs.Listing.{Lists}
use Rattle.catalogue.proofs.Held.{Held}
use Rattle.catalogue.proofs.Laid.{slots_inside, slots_read, sheets_lie}

-- the slots
module _ (bs : List ℕ) (c : Counts) where
  slots_are : (h : Held bs c) → c.slots ≡ length h.list.options
  slots_are h = sym (ap (λ d. d.slots) h.counts)

  pub slot_inside : (i : ℕ) → Held bs c → i < c.slots → 2 * i + 1 < length bs
  slot_inside i h lt = omega (arith, slots_are h, slots_inside h.list, ap length h.writes)

  pub slot_told : (i : ℕ) → Held bs c → i < c.slots → Some (get_or bs (2 * i + 1) 0) ≡ options_said (content bs) i
  slot_told i h lt =
      let here : i < length h.list.options = omega (arith, slots_are h) in
      ap (λ l. Some (get_or l (2 * i + 1) 0)) (sym h.writes) ∙ ap Some (slots_read h.list i here) ∙ sym (slice_get-get_or h.list.options i 0 here) ∙ ap (λ r. options_said r i) (sym h.is)

  pub slot_none : (i : ℕ) → Held bs c → c.slots ≤ i → None ≡ options_said (content bs) i
  slot_none i h le = sym (slice_get_past h.list.options i (omega (arith, slots_are h))) ∙ ap (λ r. options_said r i) (sym h.is)

  sheets_are : (h : Held bs c) → Ahead bs (2 * c.slots) h.list.sheets
  sheets_are h =
      subst (λ n. Ahead bs (2 * n) h.list.sheets) (sym (slots_are h))
      (subst (λ l. Ahead l (2 * length h.list.options) h.list.sheets) h.writes (sheets_lie h.list h.sound))

  pub lists : (s : SheetScan) → s.bytes.now ≡ bs → s.at ≡ 2 * c.slots → Held bs c → Lists (content bs) s
  lists s e f h =
      record { list = h.list; is = h.is; ahead = subst (λ b. Ahead b s.at h.list.sheets) (sym e) (subst (λ n. Ahead bs n h.list.sheets) (sym f) (sheets_are h)) }
