-- Counts saved at a mark, and put back. Assumes nothing.
use Rattle.std.proofs.Common.{◌≡◌, ℕ, ◌+◌, ◌<◌, ◌≤◌, ◌&&◌, List, [], length, get_or, set, sym, refl, ap, ◌∙◌, subst, ⊎_elim, arith, length-set, get_or-set_other, get_or-set_same}
use Rattle.std.proofs.lemmas.Bool.{cases_eq, lt-ltb}
use Rattle.catalogue.specs.declared.view.View.{View}
use Rattle.binder.specs.Meaning.{Noted, Undone}
use Rattle.fit.specs.Laid.{row_count, Laid}
use Rattle.fit.specs.Meaning.{keeps, kept_at, fitting}

-- at a mark that stands, what was kept is what the first n places have
pub kept_now : (views : List View) (count : ℕ) (starts order : List ℕ) (marks i s n : ℕ) (l : List ℕ) → i < marks → kept_at views count starts order marks i s n l ≡ keeps views count starts order s n l
unfolding kept_at
kept_now views count starts order marks i s n l h = ap (λ b. b && keeps views count starts order s n l) (lt-ltb i marks h)

module _ (views : List View) (count : ℕ) (starts order counts : List ℕ) (saved : List (List ℕ)) (marks : ℕ) (x : Laid views count starts order counts saved marks) where
  -- a mark more, `next` in all
  module _ (next : ℕ) (is : next ≡ marks + 1) (below : marks < 72) where
    older : (i : ℕ) → i < marks → get_or (set saved marks counts) i [] ≡ get_or saved i []
    older i h = get_or-set_other saved marks i counts [] (λ e. omega arith)

    newest : get_or (set saved marks counts) marks [] ≡ counts
    newest = get_or-set_same saved marks counts [] (omega (arith, x.deep))

    -- what holds of each saved row, and of the counts, holds of each saved row after
    saved_more : (P : ℕ → List ℕ → Type 0) → ((i : ℕ) → i < marks → P i (get_or saved i [])) → P marks counts → (i : ℕ) → i < next → P i (get_or (set saved marks counts) i [])
    saved_more P f g i h =
        ⊎_elim
        (λ e. subst (λ (k : ℕ). P k (get_or (set saved marks counts) k [])) (sym e) (subst (P marks) (sym newest) g))
        (λ ne. let lt : i < marks = omega arith in subst (P i) (sym (older i lt)) (f i lt))
        (cases_eq i marks)

    pub laid_marked : Laid views count starts order counts (set saved marks counts) next
    laid_marked =
        record {
          sound = x.sound;
          few = x.few;
          low = omega arith;
          counted = x.counted;
          deep = length-set saved marks counts ∙ x.deep;
          wide = λ i h.
              ⊎_elim
              (λ e. ap (λ k. length (get_or (set saved marks counts) k [])) e ∙ ap length newest ∙ x.counted)
              (λ ne. ap length (get_or-set_other saved marks i counts [] ne) ∙ x.wide i h)
              (cases_eq i marks);
          within = x.within;
          room = x.room;
          apart = x.apart;
          rows = x.rows;
          above = λ i s h k. saved_more (λ j r. get_or counts s 0 ≤ get_or r s 0) (λ j q. x.above j s q k) (omega arith) i h;
          capped = λ i s h k. saved_more (λ j r. get_or r s 0 ≤ row_count views s) (λ j q. x.capped j s q k) (x.within s k) i h;
          falls = λ i j s lt h k.
              let li : i < marks = omega arith in
              subst (λ (r : List ℕ). get_or (get_or (set saved marks counts) j []) s 0 ≤ get_or r s 0) (sym (older i li))
              (saved_more (λ j' r. i < j' → get_or r s 0 ≤ get_or (get_or saved i []) s 0) (λ j' q l. x.falls i j' s l q k) (λ l. x.above i s li k) j h lt);
        }

    pub noted : Noted (fitting views count starts order counts saved marks) (fitting views count starts order counts (set saved marks counts) next)
    noted =
        record {
          sheets = record { count = refl; scope = λ s. refl };
          kept = λ s l. refl;
          marks = is;
          older = λ i s h l.
              kept_now views count starts order next i s (get_or (get_or (set saved marks counts) i []) s 0) l (omega arith)
              ∙ ap (λ r. keeps views count starts order s (get_or r s 0) l) (older i h)
              ∙ sym (kept_now views count starts order marks i s (get_or (get_or saved i []) s 0) l h);
          newest = λ s l.
              kept_now views count starts order next marks s (get_or (get_or (set saved marks counts) marks []) s 0) l (omega arith)
              ∙ ap (λ r. keeps views count starts order s (get_or r s 0) l) newest;
        }

  -- the newest mark gone, `next` are left
  module _ (next : ℕ) (is : marks ≡ next + 1) where
    pub laid_undone : Laid views count starts order (get_or saved next []) saved next
    laid_undone =
        let least : marks ≤ 72 = x.low in
        record {
          sound = x.sound;
          few = x.few;
          low = omega arith;
          counted = x.wide next (omega arith);
          deep = x.deep;
          wide = x.wide;
          within = λ s h. x.capped next s (omega arith) h;
          room = x.room;
          apart = x.apart;
          rows = x.rows;
          above = λ i s h k. x.falls i next s h (omega arith) k;
          capped = λ i s h k. x.capped i s (omega arith) k;
          falls = λ i j s lt h k. x.falls i j s lt (omega arith) k;
        }

    pub undone : Undone (fitting views count starts order counts saved marks) (fitting views count starts order (get_or saved next []) saved next)
    undone =
        record {
          sheets = record { count = refl; scope = λ s. refl };
          kept = λ s l. sym (kept_now views count starts order marks next s (get_or (get_or saved next []) s 0) l (omega arith));
          marks = is;
          older = λ i s h l.
              kept_now views count starts order next i s (get_or (get_or saved i []) s 0) l h
              ∙ sym (kept_now views count starts order marks i s (get_or (get_or saved i []) s 0) l (omega arith));
        }
