-- How long the file of a sound list can be. Assumes nothing.
use Rattle.std.proofs.Common.{◌≡◌, ℕ, zero, suc, ◌+◌, ◌*◌, ◌<◌, ◌≤◌, Bool, true, false, ◌||◌, eqb, List, [], ◌∷◌, ◌++◌, length, get_or, map, ap, arith}
use Rattle.std.specs.List.{flat_map, list_any, IsDistinct, AllByRecursion}
use Rattle.std.proofs.lemmas.List.{length-append, length-map}
use Rattle.std.proofs.lemmas.Bool.{eqb-true, ne_eqb, false≢true}
use Rattle.std.proofs.lemmas.Map.Steps.{length-le_from_distinct_below}
use Rattle.catalogue.specs.declared.checked.TheConstants.{LONGEST}
use Rattle.catalogue.specs.declared.make.Make.{Make}
use Rattle.catalogue.specs.declared.make.Make.TheVariants.{Fit, Bar, Load}
use Rattle.catalogue.specs.Content.{Weight, Sheet, Content, Apart, GoodRow, GoodWeight, GoodSheet, Lacks, Sound, place, places, rows_in, loads_in, is_one}
use Rattle.catalogue.specs.Writing.{slot_bytes, row_bytes, weight_bytes, kind_of, head_bytes, entry_bytes, sheet_bytes, written}
use Rattle.catalogue.specs.Records.{header_size}
use Rattle.catalogue.proofs.Passing.{length_padded, length_row}
use Rattle.catalogue.proofs.Complete.{length_head}
use Rattle.catalogue.proofs.Laid.{length_slots}

-- a slot has at most 32 options, and one that is not there has none
few_options : (os : List ℕ) (i : ℕ) → AllByRecursion (λ n. (1 ≤ n) × (n ≤ 32)) os → get_or os i 0 ≤ 32
few_options [] i a = omega arith
few_options (n ∷ os) zero a = a.0.1
few_options (n ∷ os) (suc i) a = few_options os i a.1

-- what a weight is of, as one number below 256
abbrev place_number : Weight → ℕ
place_number w = w.position * 32 + w.option

record PlaceBounds (w : Weight) : Type 0 where
  position : w.position < 8
  option : w.option < 32

same_place : (v w : Weight) → PlaceBounds v → PlaceBounds w → place_number v ≡ place_number w → place v ≡ place w
same_place v w p q e =
    let a : v.position ≡ w.position = omega (arith, p.position, p.option, q.position, q.option) in
    let b : v.option ≡ w.option = omega (arith, p.position, p.option, q.position, q.option) in
    cc

numbers_distinct : (ws : List Weight) → AllByRecursion PlaceBounds ws → Apart (places ws) → IsDistinct eqb (map place_number ws)
unfolding IsDistinct
numbers_distinct [] l a = tt
numbers_distinct (w ∷ ws) l a = (others ws l.1 a.0, numbers_distinct ws l.1 a.1)
  where
    others : (vs : List Weight) → AllByRecursion PlaceBounds vs → AllByRecursion (λ y. place w ≡ y → ⊥) (places vs) → AllByRecursion (λ k. eqb (place_number w) k ≡ false) (map place_number vs)
    others [] m b = tt
    others (v ∷ vs) m b = (ne_eqb (place_number w) (place_number v) (λ e. b.0 (same_place w v l.0 m.0 e)), others vs m.1 b.1)

numbers_below : (ws : List Weight) → AllByRecursion PlaceBounds ws → (q : ℕ) → list_any (eqb q) (map place_number ws) ≡ true → q < 256
numbers_below [] l q e = absurd (false≢true e)
numbers_below (w ∷ ws) l q e =
    by (eqb q (place_number w)) (list_any (eqb q) (map place_number ws)) (λ t. omega (arith, eqb-true q (place_number w) t, l.0.position, l.0.option)) (numbers_below ws l.1 q) e
  where
    by : (a b : Bool) → (a ≡ true → q < 256) → (b ≡ true → q < 256) → (a || b) ≡ true → q < 256
    by true b f g h = f h
    by false b f g h = g h

-- no more weights than there are options at eight positions
few_weights : (ws : List Weight) → AllByRecursion PlaceBounds ws → Apart (places ws) → length ws ≤ 256
few_weights ws l a =
    omega (arith, length-map ws place_number, length-le_from_distinct_below (map place_number ws) 256 (numbers_distinct ws l a) (numbers_below ws l))

length_weights : (ws : List Weight) → length (flat_map weight_bytes ws) ≡ 5 * length ws
length_weights [] = omega arith
length_weights (w ∷ ws) = omega (arith, length-append (weight_bytes w) (flat_map weight_bytes ws), length_weights ws)

-- the header and the weights of a sheet: a load sheet has four bytes of header and its weights beyond the others
short_without_rows : (m : Make) (t : Sheet) → Lacks m t → length t.weights ≤ 256 → header_size m + 5 * length t.weights ≤ 10 + 1284 * is_one m
short_without_rows Fit t l few = omega (arith, ap length l.0)
short_without_rows Bar t l few = omega (arith, ap length l.0)
short_without_rows Load t l few = omega arith

module _ (os : List ℕ) (sizes : AllByRecursion (λ n. (1 ≤ n) × (n ≤ 32)) os) where
  bounded : (ss : List ℕ) → length ss ≤ 8 → (ws : List Weight) → AllByRecursion (GoodWeight os ss) ws → AllByRecursion PlaceBounds ws
  bounded ss few [] g = tt
  bounded ss few (w ∷ ws) g =
      (record { position = omega (arith, g.0.placed); option = omega (arith, g.0.known, few_options os (get_or ss w.position 0) sizes) }, bounded ss few ws g.1)

  length_rows : (ss : List ℕ) → length ss ≤ 8 → (rs : List (List ℕ)) → AllByRecursion (GoodRow os ss) rs → length (flat_map row_bytes rs) ≡ 9 * length rs
  length_rows ss few [] g = omega arith
  length_rows ss few (r ∷ rs) g =
      omega (arith, length-append (row_bytes r) (flat_map row_bytes rs), length_padded r (omega (arith, length_row os ss r g.0)), length_rows ss few rs g.1)

  short_sheet : (t : Sheet) → GoodSheet os t → length (sheet_bytes t) ≤ 10 + 9 * length t.rows + 1284 * is_one t.make
  short_sheet t g =
      omega (
        arith,
        length-append (kind_of t.make ∷ head_bytes t) (entry_bytes t),
        length-append (flat_map row_bytes t.rows) (flat_map weight_bytes t.weights),
        length_head t g.few,
        length_rows t.scope g.few t.rows g.rows,
        length_weights t.weights,
        short_without_rows t.make t g.lacks (few_weights t.weights (bounded t.scope g.few t.weights g.weights) g.weights_apart),
      )

  short_sheets : (ts : List Sheet) → AllByRecursion (GoodSheet os) ts → length (flat_map sheet_bytes ts) ≤ 10 * length ts + 9 * rows_in ts + 1284 * loads_in ts
  short_sheets [] g = omega arith
  short_sheets (t ∷ ts) g =
      omega (arith, length-append (sheet_bytes t) (flat_map sheet_bytes ts), short_sheet t g.0, short_sheets ts g.1)

-- No sound list is written as a longer file.
pub short : (w : Content) → Sound w → length (written w) ≤ LONGEST
short w s =
    omega (
      arith,
      length-append (flat_map slot_bytes w.options ++ flat_map sheet_bytes w.sheets) (7 ∷ []),
      length-append (flat_map slot_bytes w.options) (flat_map sheet_bytes w.sheets),
      length_slots w.options,
      short_sheets w.options s.sizes w.sheets s.good,
      s.slots,
      s.sheets,
      s.loads,
      s.rows,
    )
