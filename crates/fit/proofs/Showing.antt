-- One sheet sifted and its box narrowed: what that comes to for the binder. Assumes nothing.
use Rattle.std.proofs.Common.{◌≡◌, ℕ, ◌+◌, ◌*◌, ◌<◌, ◌≤◌, Bool, List, [], length, get_or, set, take, Decides, sym, refl, ap, ◌∙◌, subst, ⊎_elim, arith, length-set, get_or-set_other, get_or-set_same}
use borrow.Rule.Slice.PartMut.{mid_of, put_mid}
use Rattle.std.proofs.lemmas.Bool.{cases_eq, cases_lt}
use Rattle.std.proofs.lemmas.Bool.Decides.{same_from_decides, Decides-like}
use Rattle.catalogue.specs.declared.view.View.{View}
use Rattle.boxes.specs.Boxes.{Open, Fits, Bit}
use Rattle.boxes.proofs.Bits.{open_low}
use Rattle.binder.specs.Meaning.{Binding, Shown}
use Rattle.sheets.specs.Closing.{Narrowed, shorter}
use Rattle.sheets.specs.Tables.{scope_in, option_at}
use Rattle.sheets.proofs.Narrowing.{Masks, shown_by_masks}
use Rattle.fit.specs.Runs.{Among, Sifted}
use Rattle.fit.specs.Rows.{Suits, Whole, Low, Gathered}
use Rattle.fit.specs.Laid.{scope_shown, entries_of, row_count, row_of, Laid}
use Rattle.fit.specs.Meaning.{Keeps, keeps, kept_at, fitting, Exact, scope_here, keeps_decides, kept_decides, from_T, to_T}
use Rattle.fit.proofs.Sifting.{Mixed, SiftedRun, HoldsRun, lies_mid, sifted_part, lies_left}
use Rattle.fit.proofs.Rowing.{suits_at, row_there, fits_row, suits_row, option_row}

-- tests of the same are the same
alike : {P Q : Type 0} (a b : Bool) → Decides a P → Decides b Q → (P → Q) → (Q → P) → a ≡ b
alike a b p q f g = same_from_decides a b (Decides-like a f g p) q

-- a count that falls at one sheet
lowered : (counts : List ℕ) (s left : ℕ) → s < length counts → left ≤ get_or counts s 0 → (t : ℕ) → get_or (set counts s left) t 0 ≤ get_or counts t 0
lowered counts s left h le t =
    ⊎_elim
    (λ e. subst (λ (k : ℕ). get_or (set counts s left) k 0 ≤ get_or counts k 0) (sym e) (omega (arith, get_or-set_same counts s left 0 h)))
    (λ ne. omega (arith, get_or-set_other counts s t left 0 ne))
    (cases_eq t s)

moved : (views : List View) (starts order order' : List ℕ) (s n m : ℕ) (l : List ℕ) → ((v : ℕ) → Among order (get_or starts s 0) n v → Among order' (get_or starts s 0) m v) → Keeps views starts order s n l → Keeps views starts order' s m l
moved views starts order order' s n m l f z = record { row = z.row; among = f z.row z.among; reads = z.reads }

-- what holds of a sheet's scope and entries holds of what the code read
pub at_sheet : (a a' e e' : List ℕ) (P : List ℕ → List ℕ → Type 0) → a ≡ a' → e ≡ e' → P a e → P a' e'
at_sheet a a' e e' P p q h = subst (λ y. P a' y) q (subst (λ y. P y e) p h)

module _ (views : List View) (count : ℕ) (starts order counts : List ℕ) (saved : List (List ℕ)) (marks : ℕ) (x : Laid views count starts order counts saved marks) (s : ℕ) (hs : s < count) where
  -- what a sift asks of the run, which holds rows of the sheet
  module _ (k : ℕ) (all : k ≡ get_or counts s 0) (room : length order ≡ 4096) where
    row_known : (p : ℕ) → p < length (mid_of (get_or starts s 0) k order) → get_or (mid_of (get_or starts s 0) k order) p 0 < row_count views s
    row_known p h =
        let at = lies_mid order (get_or starts s 0) k (get_or counts s 0) all (omega (arith, x.room s hs, x.within s hs)) in
        let lt : p < get_or counts s 0 = omega (arith, at.long) in
        subst (λ (v : ℕ). v < row_count views s) (at.at p lt) (x.rows s p hs (omega (arith, x.within s hs)))

    pub whole_before : Whole (mid_of (get_or starts s 0) k order) (entries_of views s)
    whole_before = record { each = λ p h. row_there views s (get_or (mid_of (get_or starts s 0) k order) p 0) (row_known p h) }

    pub low_before : Low (mid_of (get_or starts s 0) k order) (entries_of views s) (length (scope_shown views s))
    low_before =
        record {
          each = λ q p hq hp.
              let r : ℕ = get_or (mid_of (get_or starts s 0) k order) q 0 in
              omega (arith, option_row views s r p hp, x.sound.options s r p hs (row_known q hq) hp);
        }

  -- a sift of the run, by what the code read of the sheet
  module _ (b next scope entries : List ℕ) (k left : ℕ) (is_scope : scope ≡ scope_shown views s) (is_entries : entries ≡ entries_of views s) (all : k ≡ get_or counts s 0) (room : length order ≡ 4096)
      (sifted : Sifted (Suits b scope entries) (mid_of (get_or starts s 0) k order) next left) where
    at_run : Sifted (Suits b (scope_shown views s) (entries_of views s)) (mid_of (get_or starts s 0) k order) next left
    at_run = at_sheet _ _ _ _ (λ sc es. Sifted (Suits b sc es) (mid_of (get_or starts s 0) k order) next left) is_scope is_entries sifted

    pub sifted_here : SiftedRun (Suits b (scope_shown views s) (entries_of views s)) order (put_mid (get_or starts s 0) k order next) (get_or starts s 0) (get_or counts s 0) left
    sifted_here = sifted_part _ order next (get_or starts s 0) k (get_or counts s 0) left all (omega (arith, x.room s hs, x.within s hs)) at_run

    pub left_here : HoldsRun (put_mid (get_or starts s 0) k order next) (take left (mid_of (get_or starts s 0) k (put_mid (get_or starts s 0) k order next))) (get_or starts s 0) left
    left_here = lies_left _ order next (get_or starts s 0) k (get_or counts s 0) left all (omega (arith, x.room s hs, x.within s hs)) at_run

  module _ (order' b : List ℕ) (left : ℕ) (sifted : SiftedRun (Suits b (scope_shown views s) (entries_of views s)) order order' (get_or starts s 0) (get_or counts s 0) left) where
    mixed : Mixed order order' (get_or starts s 0) (get_or counts s 0)
    mixed = sifted.mixed

    -- the places of another sheet are as they were
    untouched : (t : ℕ) → t < count → (t ≡ s → ⊥) → (p : ℕ) → p < row_count views t → get_or order' (get_or starts t 0 + p) 0 ≡ get_or order (get_or starts t 0 + p) 0
    untouched t ht ne p h =
        ⊎_elim
        (λ lt. mixed.under (get_or starts t 0 + p) (omega (arith, x.apart t s lt hs)))
        (λ ge. let lt : s < t = omega arith in mixed.past (get_or starts t 0 + p) (omega (arith, x.apart s t lt ht, x.within s hs)))
        (cases_lt t s)

    -- a front at least as long as the one that was sifted holds what it held
    run_into : (t n : ℕ) → t < count → get_or counts t 0 ≤ n → n ≤ row_count views t → (v : ℕ) → Among order (get_or starts t 0) n v → Among order' (get_or starts t 0) n v
    run_into t n ht low high v =
        ⊎_elim
        (λ e. subst (λ (k : ℕ). get_or counts k 0 ≤ n → Among order (get_or starts k 0) n v → Among order' (get_or starts k 0) n v) (sym e) (λ le. mixed.into v n le) low)
        (λ ne a. record { place = a.place; below = a.below; is = untouched t ht ne a.place (omega (arith, a.below)) ∙ a.is })
        (cases_eq t s)

    run_back : (t n : ℕ) → t < count → get_or counts t 0 ≤ n → n ≤ row_count views t → (v : ℕ) → Among order' (get_or starts t 0) n v → Among order (get_or starts t 0) n v
    run_back t n ht low high v =
        ⊎_elim
        (λ e. subst (λ (k : ℕ). get_or counts k 0 ≤ n → Among order' (get_or starts k 0) n v → Among order (get_or starts k 0) n v) (sym e) (λ le. mixed.back v n le) low)
        (λ ne a. record { place = a.place; below = a.below; is = sym (untouched t ht ne a.place (omega (arith, a.below))) ∙ a.is })
        (cases_eq t s)

    pub rows_after : (t p : ℕ) → t < count → p < row_count views t → get_or order' (get_or starts t 0 + p) 0 < row_count views t
    rows_after t p ht hp =
        let a = run_back t (row_count views t) ht (x.within t ht) (omega arith) (get_or order' (get_or starts t 0 + p) 0) (record { place = p; below = hp; is = refl }) in
        subst (λ (v : ℕ). v < row_count views t) a.is (x.rows t a.place ht a.below)

    low : (t : ℕ) → get_or (set counts s left) t 0 ≤ get_or counts t 0
    low = lowered counts s left (omega (arith, x.counted, x.few)) sifted.fewer

    here : get_or (set counts s left) s 0 ≡ left
    here = get_or-set_same counts s left 0 (omega (arith, x.counted, x.few))

    pub laid_sifted : Laid views count starts order' (set counts s left) saved marks
    laid_sifted =
        record {
          sound = x.sound;
          few = x.few;
          low = x.low;
          counted = length-set counts s left ∙ x.counted;
          deep = x.deep;
          wide = x.wide;
          within = λ t h. omega (arith, low t, x.within t h);
          room = x.room;
          apart = x.apart;
          rows = rows_after;
          above = λ i t h k. omega (arith, low t, x.above i t h k);
          capped = x.capped;
          falls = x.falls;
        }

    -- what a gathering asks of the rows that are left
    module _ (rows : List ℕ) (at : HoldsRun order' rows (get_or starts s 0) left) where
      pub whole_after : Whole rows (entries_of views s)
      whole_after =
          record {
            each = λ p h.
                let lt : p < left = omega (arith, at.long) in
                subst (λ (v : ℕ). 9 * v + 9 ≤ length (entries_of views s)) (at.at p lt)
                (row_there views s (get_or order' (get_or starts s 0 + p) 0) (rows_after s p hs (omega (arith, x.within s hs, sifted.fewer))));
          }

      pub low_after : Low rows (entries_of views s) (length (scope_shown views s))
      low_after =
          record {
            each = λ q p hq hp.
                let lt : q < left = omega (arith, at.long) in
                let good = subst (Suits b (scope_shown views s) (entries_of views s)) (at.at q lt) (sifted.good q lt) in
                open_low b (get_or (scope_shown views s) p 0) (option_at (entries_of views s) (get_or rows q 0) p) (suits_at b (scope_shown views s) (entries_of views s) (get_or rows q 0) good p hp);
          }

    -- what is kept after was kept before, and fits
    kept_before : (l : List ℕ) → Keeps views starts order' s left l → Keeps views starts order s (get_or counts s 0) l
    kept_before l =
        moved views starts order' order s left (get_or counts s 0) l
        (λ v a. mixed.back v (get_or counts s 0) (omega arith) (record { place = a.place; below = omega (arith, a.below, sifted.fewer); is = a.is }))

    kept_fits : (l : List ℕ) → Keeps views starts order' s left l → Fits b (scope_shown views s) l
    kept_fits l z =
        let a = z.among in
        subst (Fits b (scope_shown views s)) z.reads
        (fits_row views s b z.row (subst (Suits b (scope_shown views s) (entries_of views s)) a.is (sifted.good a.place a.below)))

    -- and what was kept before and fits is kept
    kept_still : (l : List ℕ) → Keeps views starts order s (get_or counts s 0) l → Fits b (scope_shown views s) l → Keeps views starts order' s left l
    kept_still l z fits =
        record {
          row = z.row;
          among = sifted.still z.row z.among (suits_row views s b z.row (subst (Fits b (scope_shown views s)) (sym z.reads) fits));
          reads = z.reads;
        }

    was : Binding
    was = fitting views count starts order counts saved marks

    is : Binding
    is = fitting views count starts order' (set counts s left) saved marks

    scoped : (P : List ℕ → Type 0) → P (scope_shown views s) → P (scope_in views count s)
    scoped P = subst P (sym (scope_here views count s hs))

    unscoped : (P : List ℕ → Type 0) → P (scope_in views count s) → P (scope_shown views s)
    unscoped P = subst P (scope_here views count s hs)

    now_decides : (l : List ℕ) → Decides (keeps views count starts order' s (get_or (set counts s left) s 0) l) (Keeps views starts order' s left l)
    now_decides l =
        Decides-like (keeps views count starts order' s (get_or (set counts s left) s 0) l)
        (λ z. subst (λ n. Keeps views starts order' s n l) here z.1)
        (λ z. (hs, subst (λ n. Keeps views starts order' s n l) (sym here) z))
        (keeps_decides views count starts order' s (get_or (set counts s left) s 0) l)

    was_decides : (l : List ℕ) → Decides (keeps views count starts order s (get_or counts s 0) l) (Keeps views starts order s (get_or counts s 0) l)
    was_decides l =
        Decides-like (keeps views count starts order s (get_or counts s 0) l) (λ z. z.1) (λ z. (hs, z))
        (keeps_decides views count starts order s (get_or counts s 0) l)

    pub exact : Exact (fitting views count starts order counts saved marks) (fitting views count starts order' (set counts s left) saved marks) s b
    exact =
        record {
          just = λ l.
              Decides-like (keeps views count starts order' s (get_or (set counts s left) s 0) l)
              (λ z. ((was_decides l).1 (kept_before l z), scoped (λ sc. Fits b sc l) (kept_fits l z)))
              (λ z. kept_still l ((was_decides l).0 z.0) (unscoped (λ sc. Fits b sc l) z.1))
              (now_decides l);
        }

    masks_hold : (masks rows : List ℕ) → HoldsRun order' rows (get_or starts s 0) left → Gathered b (scope_shown views s) rows (entries_of views s) masks (length (scope_shown views s)) → Masks (fitting views count starts order counts saved marks) s b masks
    masks_hold masks rows at g =
        let sound : (p o : ℕ) → p < length (scope_shown views s) → Bit (get_or masks p 0) o → (l : List ℕ) × Keeps views starts order' s left l × (get_or l p 0 ≡ o)
        = λ p o h bit.
        let k = (g.each p h).sound o bit in
        let lt : k.place < left = omega (arith, k.below, at.long) in
        let r : ℕ = get_or rows k.place 0 in
        (row_of views s r, record { row = r; among = record { place = k.place; below = lt; is = at.at k.place lt }; reads = refl }, option_row views s r p h ∙ k.has) in
        let complete : (p o : ℕ) → p < length (scope_shown views s) → (l : List ℕ) → Keeps views starts order s (get_or counts s 0) l → Fits b (scope_shown views s) l → get_or l p 0 ≡ o → Bit (get_or masks p 0) o
        = λ p o h l kept fits holds.
        let z = kept_still l kept fits in
        let lt : z.among.place < length rows = omega (arith, z.among.below, at.long) in
        let has : option_at (entries_of views s) (get_or rows z.among.place 0) p ≡ o
        = ap (λ r. option_at (entries_of views s) r p) (sym (at.at z.among.place z.among.below) ∙ z.among.is) ∙ sym (option_row views s z.row p h) ∙ ap (λ r. get_or r p 0) z.reads ∙ holds in
        (g.each p h).complete o (record { place = z.among.place; below = lt; has = has }) (subst (Open b (get_or (scope_shown views s) p 0)) holds (fits.each p h)) in
        record {
          sound = λ p o h is_open bit.
              let z = sound p o (unscoped (λ sc. p < length sc) h) bit in
              record {
                list = z.0;
                keeps = to_T _ ((was_decides z.0).1 (kept_before z.0 z.1));
                fits = scoped (λ sc. Fits b sc z.0) (kept_fits z.0 z.1);
                holds = z.2;
              };
          complete = λ p o h held.
              complete p o (unscoped (λ sc. p < length sc) h) held.list ((was_decides held.list).0 (from_T _ held.keeps)) (unscoped (λ sc. Fits b sc held.list) held.fits) held.holds;
        }

    pub shown : (c masks rows : List ℕ) → HoldsRun order' rows (get_or starts s 0) left → Gathered b (scope_shown views s) rows (entries_of views s) masks (length (scope_shown views s)) → Narrowed b c (scope_shown views s) masks (length (scope_shown views s))
        → Shown (fitting views count starts order counts saved marks) (fitting views count starts order' (set counts s left) saved marks) s b c
    shown c masks rows at g narrowed =
        let box = shown_by_masks (fitting views count starts order counts saved marks) s b c masks
        (scoped (λ sc. (p q : ℕ) → p < q → q < length sc → get_or sc p 0 ≡ get_or sc q 0 → ⊥) (λ p q. x.sound.apart s p q hs))
        (masks_hold masks rows at g)
        (scoped (λ sc. Narrowed b c sc masks (length sc)) narrowed) in
        record {
          supported = box.supported;
          spared = box.spared;
          elsewhere = box.elsewhere;
          only_closes = box.only_closes;
          still = λ l t fits. to_T _ ((exact.just l).1 (from_T _ t, fits));
          none_added = λ l t. to_T _ ((exact.just l).0 (from_T _ t)).0;
          others = λ t ne l.
              let same : get_or (set counts s left) t 0 ≡ get_or counts t 0 = get_or-set_other counts s t left 0 ne in
              ap (λ n. keeps views count starts order' t n l) same
              ∙ alike (keeps views count starts order' t (get_or counts t 0) l) (keeps views count starts order t (get_or counts t 0) l) (keeps_decides views count starts order' t (get_or counts t 0) l) (keeps_decides views count starts order t (get_or counts t 0) l)
              (λ z. (z.0, moved views starts order' order t (get_or counts t 0) (get_or counts t 0) l (run_back t (get_or counts t 0) z.0 (omega arith) (x.within t z.0)) z.1))
              (λ z. (z.0, moved views starts order order' t (get_or counts t 0) (get_or counts t 0) l (run_into t (get_or counts t 0) z.0 (omega arith) (x.within t z.0)) z.1));
          sheets = record { count = refl; scope = λ t. refl };
          marks = refl;
          marked = λ i t l.
              let n : ℕ = get_or (get_or saved i []) t 0 in
              alike (kept_at views count starts order' marks i t n l) (kept_at views count starts order marks i t n l) (kept_decides views count starts order' marks i t n l) (kept_decides views count starts order marks i t n l)
              (λ z. (z.0, (z.1.0, moved views starts order' order t n n l (run_back t n z.1.0 (x.above i t z.0 z.1.0) (x.capped i t z.0 z.1.0)) z.1.1)))
              (λ z. (z.0, (z.1.0, moved views starts order order' t n n l (run_into t n z.1.0 (x.above i t z.0 z.1.0) (x.capped i t z.0 z.1.0)) z.1.1)));
        }

pub narrowed_all : (b c scope scope' masks : List ℕ) → length scope' ≤ 8 → length masks ≡ 8 → scope ≡ scope' → Narrowed b c scope masks (shorter scope masks) → Narrowed b c scope' masks (length scope')
narrowed_all b c scope scope' masks few long e h =
    let k : shorter scope' masks ≡ length scope' = omega arith in
    subst (Narrowed b c scope' masks) k (subst (λ sc. Narrowed b c sc masks (shorter sc masks)) e h)
