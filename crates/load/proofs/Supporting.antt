-- The masks are the supported options. Assumes nothing.
use Rattle.std.proofs.Common.{◌≡◌, ℕ, ◌+◌, ◌<◌, List, [], length, get_or, replicate, set, ℤ, pos, sym, refl, subst, ⊎_elim, arith, get_or-set_other, get_or-set_same, below_more}
use lib.ListN.{get_or-replicate}
use Rattle.std.proofs.lemmas.List.{get_or_past, length-replicate}
use Rattle.std.proofs.lemmas.Bool.{cases_lt}
use Rattle.boxes.specs.Boxes.{Open, Fits, Bit}
use Rattle.load.specs.Joins.{Least, Picked, Light}
use Rattle.load.specs.Sums.{sums}
use Rattle.load.specs.Weights.{weighs, OpenIn, cell_at, Supported, Supports, LowestAt, Bare, rest_of, Allowed, Masked, MaskedAt}
use Rattle.load.proofs.Joining.{light_if, light_only_if}
use Rattle.load.proofs.Bitwise.{no_bit}

-- what is open in a box is open in the cell of its slot
open_cell : (b : List ℕ) (s o : ℕ) → Open b s o → OpenIn (get_or b s 0) o
unfolding Open
open_cell b s o h = h

cell_open : (b : List ℕ) (s o : ℕ) → OpenIn (get_or b s 0) o → Open b s o
unfolding Open
cell_open b s o h = h

-- a list fits where each option is allowed at its position
module _ (b scope l : List ℕ) where
  picked_from : Fits b scope l → Picked (λ p. OpenIn (cell_at b scope p)) (length scope) l
  picked_from f = record { long = f.long; each = λ p h. open_cell b (get_or scope p 0) (get_or l p 0) (f.each p h) }

  fits_from : Picked (λ p. OpenIn (cell_at b scope p)) (length scope) l → Fits b scope l
  fits_from k = record { long = k.long; each = λ p h. cell_open b (get_or scope p 0) (get_or l p 0) (k.each p h) }

-- zeros everywhere
pub zeros : (n p : ℕ) → ◌≡◌ {A = ℕ} (get_or (replicate n 0) p 0) 0
zeros n p =
    ⊎_elim (λ lt. get_or-replicate n p 0 0 lt) (λ ge. get_or_past (replicate n 0) p 0 (simp length-replicate ge)) (cases_lt p n)

-- the masks, position by position
pub masked_more : (b scope : List ℕ) (table : List (List ℤ)) (ms : List ℤ) («cap» limit rest : ℤ) (masks : List ℕ) (n mask : ℕ) → n < length masks → limit ≡ «cap» → rest ≡ rest_of ms n → MaskedAt b scope table ms «cap» n masks → Masked (Allowed (get_or table n []) rest limit (cell_at b scope n)) mask → MaskedAt b scope table ms «cap» (n + 1) (set masks n mask)
masked_more b scope table ms «cap» limit rest masks n mask h same e was here =
    below_more
    (λ p. Masked (Allowed (get_or table p []) (rest_of ms p) «cap» (cell_at b scope p)) (get_or (set masks n mask) p 0))
    n
    (λ p lt. subst (Masked (Allowed (get_or table p []) (rest_of ms p) «cap» (cell_at b scope p))) (sym (get_or-set_other masks n p mask 0 (λ e. omega arith))) (was p lt))
    (subst (Masked (Allowed (get_or table n []) (rest_of ms n) «cap» (cell_at b scope n))) (sym (get_or-set_same masks n mask 0 h))
    (subst (λ r. Masked (Allowed (get_or table n []) r «cap» (cell_at b scope n)) mask) e (subst (λ k. Masked (Allowed (get_or table n []) rest k (cell_at b scope n)) mask) same here)))

module _ (table : List (List ℤ)) («cap» : ℤ) (scope b : List ℕ) where
  -- a supported option is open
  open_at : (p o : ℕ) → p < length scope → Supported table «cap» scope b p o → OpenIn (cell_at b scope p) o
  open_at p o h s = open_cell b (get_or scope p 0) o (subst (Open b (get_or scope p 0)) s.holds (s.fits.each p h))

  module _ (ms : List ℤ) (masks : List ℕ) (ms-long : length ms ≡ length scope) (lowest : LowestAt b scope table (length scope) ms) where
    leasts : (p : ℕ) → p < length ms → Least sums (OpenIn (cell_at b scope p)) (weighs table p) (get_or ms p (pos 0))
    leasts p h = (lowest p (omega (arith, ms-long))).least

    light_from : (p o : ℕ) → Supported table «cap» scope b p o → Light sums (λ q. OpenIn (cell_at b scope q)) (weighs table) «cap» (length ms) p o
    light_from p o s =
        subst
        (λ (n : ℕ). Light sums (λ q. OpenIn (cell_at b scope q)) (weighs table) «cap» n p o)
        (sym ms-long)
        (record { list = s.list; picked = picked_from b scope s.list s.fits; holds = s.holds; within = s.within })

    from_light : (p o : ℕ) → Light sums (λ q. OpenIn (cell_at b scope q)) (weighs table) «cap» (length ms) p o → Supported table «cap» scope b p o
    from_light p o s =
        record {
          list = s.list;
          within = s.within;
          fits = fits_from b scope s.list (subst (λ (n : ℕ). Picked (λ q. OpenIn (cell_at b scope q)) n s.list) ms-long s.picked);
          holds = s.holds;
        }

    pub supports : length masks ≡ 8 → MaskedAt b scope table ms «cap» (length ms) masks → Supports table «cap» scope b masks
    supports masks-long masked =
        let there : (p : ℕ) → p < length scope → p < length ms = λ p h. omega (arith, ms-long) in
        record {
          long = masks-long;
          sound = λ p o h bit.
              let a = (masked p (there p h)).sound o bit in
              from_light p o (light_if sums (λ q. OpenIn (cell_at b scope q)) (weighs table) «cap» ms p o leasts (there p h) a.is_open a.fits);
          complete = λ p o h s.
              let is_open = open_at p o h s in
              (masked p (there p h)).complete o
              (record { is_open = is_open; fits = light_only_if sums (λ q. OpenIn (cell_at b scope q)) (weighs table) «cap» ms p o leasts (there p h) (light_from p o s) });
        }

  -- where a slot has no option open, nothing is supported
  pub supports_none : Bare b scope → Supports table «cap» scope b (replicate 8 0)
  supports_none none =
      record {
        long = refl;
        sound = λ p o h k. absurd (no_bit o (subst (λ (n : ℕ). Bit n o) (zeros 8 p) k));
        complete = λ p o h s. absurd (none.bare (get_or s.list none.position 0) ((picked_from b scope s.list s.fits).each none.position none.here));
      }
