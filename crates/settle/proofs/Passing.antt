-- A round on its way: which sheets hold what is open. Assumes nothing.
use Rattle.std.proofs.Common.{◌≡◌, ℕ, ◌+◌, ◌<◌, ◌≤◌, bit_or, List, length, get_or, refl, sym, subst, ⊎_elim, arith}
use Rattle.std.proofs.lemmas.Bool.{cases_eq}
use Rattle.boxes.specs.Boxes.{Open, Fits, Within, Bit}
use Rattle.boxes.proofs.Bits.{open_there}
use Rattle.binder.specs.Meaning.{Binding, Held, Shown}
use Rattle.settle.specs.Reach.{Covering, Holding, Rests}
use Rattle.settle.specs.Settled.{Tight}
use Rattle.settle.specs.Passed.{Passed}
use Rattle.settle.specs.declared.waiting.Waiting.{Waiting}
use Rattle.settle.specs.Waiting.{Spared, Quiet, Begun, Next, Passing, Looked, Turned}
use Rattle.settle.proofs.Tight.{tight_none, tight_shown, tight_trans}
use Rattle.settle.proofs.Losing.{loses_before, loses_after}
use Rattle.settle.proofs.Sparing.{spared_before, passing_spared, passing_quiet, quiet_next, quiet_all, first_apart}

-- The sheet that was shown the box holds what it left open: each option of a list that holds one is held by that list too.
shown_holds : (m n : Binding) (s : ℕ) (b c : List ℕ) → Shown m n s b c → Holding n c s
shown_holds m n s b c shown p o hp h =
    let e : n.scope s ≡ m.scope s = shown.sheets.scope s in
    let w : Held m b s p o = shown.supported p o (subst (λ x. p < length x) e hp) (subst (λ x. Open c (get_or x p 0) o) e h) in
    let fits : Fits c (m.scope s) w.list = record {
      long = w.fits.long;
      each = λ q hq. shown.spared q (get_or w.list q 0) hq (record { list = w.list; keeps = w.keeps; fits = w.fits; holds = refl });
    } in
    record { list = w.list; keeps = shown.still w.list w.keeps w.fits; fits = subst (λ x. Fits c x w.list) (sym e) fits; holds = w.holds }

-- A sheet goes on holding what is open where none of its slots lost an option.
holds_on : (m n : Binding) (mask : ℕ) (b c : List ℕ) → length b ≡ 48 → Tight m n b c → ((t o : ℕ) → Bit mask t → Open b t o → Open c t o) → (s : ℕ) → Covering (m.scope s) mask → Holding m b s → Holding n c s
holds_on m n mask b c long tight same s covers was p o hp h =
    let e : n.scope s ≡ m.scope s = tight.framed.sheets.scope s in
    let w : Held m b s p o = was p o (subst (λ x. p < length x) e hp) (tight.within _ o (subst (λ x. Open c (get_or x p 0) o) e h)) in
    let fits : Fits c (m.scope s) w.list = record {
      long = w.fits.long;
      each = λ q hq.
          let there : Open b (get_or (m.scope s) q 0) (get_or w.list q 0) = w.fits.each q hq in
          same _ _ (covers q hq (subst (λ x. get_or (m.scope s) q 0 < x) long (open_there b _ _ there))) there;
    } in
    record { list = w.list; keeps = tight.still s w.list w.keeps fits; fits = subst (λ x. Fits c x w.list) (sym e) fits; holds = w.holds }

pub passed_none : (m : Binding) (masks : List ℕ) (w : Waiting) (b : List ℕ) → Begun w b → Passed m m masks w w b b 0
passed_none m masks w b begun = record {
  tight = tight_none m b;
  within = begun.within;
  less = begun.seen;
  lost = λ ne. absurd (ne begun.fresh);
  holds = λ s hs covers was q. was q;
}

-- sheets that name no slot which lost an option
pub passed_next : (m n : Binding) (masks : List ℕ) (w v : Waiting) (b c : List ℕ) (j count k : ℕ) → Passed m n masks w v b c j → Next masks j count (bit_or v.late v.fresh) k → Passed m n masks w v b c k
passed_next m n masks w v b c j count k was next = record {
  tight = was.tight;
  within = was.within;
  less = was.less;
  lost = was.lost;
  holds = λ s hs covers first q. was.holds s hs covers first (record { spared = spared_before v masks j count k s next q.spared; seen = q.seen });
}

-- one sheet more, which need not wait
pub passed_spared : (m n : Binding) (masks : List ℕ) (w v u : Waiting) (b c : List ℕ) (k : ℕ) → Passed m n masks w v b c k → Passing v u k → Spared u (get_or masks k 0) k k → Passed m n masks w u b c (k + 1)
passed_spared m n masks w v u b c k was p spared = record {
  tight = was.tight;
  within = λ t o h. subst (λ z. Open z.cells t o) (sym p.known) (was.within t o h);
  less = λ t o h. was.less t o (subst (λ z. Open z.cells t o) p.known h);
  lost = λ ne. was.lost (subst (λ z. z ≡ 0 → ⊥) p.fresh ne);
  holds = λ s hs covers first q. was.holds s hs covers first (⊎_elim
      (λ e. record {
        spared = subst (λ x. Spared v (get_or masks x 0) x k) (sym e) (passing_spared v u k (get_or masks k 0) k p spared);
        seen = λ t o x h. q.seen t o x (subst (λ z. Open z.cells t o) (sym p.known) h);
      })
      (λ ne. passing_quiet v u c k (get_or masks s 0) s p (quiet_next u c (get_or masks s 0) s k ne q))
      (cases_eq s k));
}

-- one sheet more, which was shown the box
pub passed_shown : (m n j : Binding) (masks : List ℕ) (w v u x : Waiting) (b c e : List ℕ) (k : ℕ) → length c ≡ 48 → k < n.count → Passed m n masks w v b c k → Passing v u k → Shown n j k c e → Looked u x e k
    → Passed m j masks w x b e (k + 1)
passed_shown m n j masks w v u x b c e k long hk was p shown looked =
    let frame = was.tight.framed.sheets in
    let two : Tight n j c e = tight_shown n j k c e hk shown in
    let down : Within u.known.cells b = λ t o h. was.less t o (subst (λ z. Open z.cells t o) p.known h) in
    record {
      tight = tight_trans m n b c was.tight j e two;
      within = looked.within;
      less = λ t o h. down t o (looked.less t o h);
      lost = λ ne. ⊎_elim
          (λ old. loses_after b c e two.within (was.lost (subst (λ z. z ≡ 0 → ⊥) p.fresh old)))
          (λ l. loses_before b u.known.cells e down l)
          (looked.lost ne);
      holds = λ s hs covers first q. ⊎_elim
          (λ f. subst (λ z. Holding j e z) (sym f) (shown_holds n j k c e shown))
          (λ ne.
          let mask = get_or masks s 0 in
          let r : Quiet v e mask s k = passing_quiet v u e k mask s p (looked.quiet mask s ne (quiet_next x e mask s k ne q)) in
          holds_on n j mask c e long two (λ t o y h. r.seen t o y (was.within t o h)) s (subst (λ z. Covering z mask) (sym (frame.scope s)) covers)
          (was.holds s hs covers first (record { spared = r.spared; seen = λ t o y h. two.within t o (r.seen t o y h) })))
          (cases_eq s k);
    }

-- Rounds in a row, of which the next begins: each sheet that need not wait holds what is open.
pub record Going (m n : Binding) (masks : List ℕ) (lost : ℕ) (w : Waiting) (a b : List ℕ) : Type 0 where
  pub tight : Tight m n a b
  pub begun : Begun w b
  pub holds : (s : ℕ) → s < m.count → Covering (m.scope s) (get_or masks s 0) → Rests m masks a lost s → Quiet w b (get_or masks s 0) s 0 → Holding n b s

pub going_none : (m : Binding) (masks : List ℕ) (lost : ℕ) (w : Waiting) (a : List ℕ) → m.count ≤ 1024 → Begun w a → w.late ≡ lost → ((t : ℕ) → get_or w.last t 1024 ≡ 1024) → Going m m masks lost w a a
going_none m masks lost w a few begun late last = record {
  tight = tight_none m a;
  begun = begun;
  holds = λ s hs covers rest q. rest (first_apart w a (get_or masks s 0) s lost late last (omega arith) q);
}

pub going_more : (m n k : Binding) (masks : List ℕ) (lost : ℕ) (w v u : Waiting) (a b c : List ℕ) → m.count ≤ 1024 → Going m n masks lost w a b → Passed n k masks w v b c n.count → Turned v u c → Going m k masks lost u a c
going_more m n k masks lost w v u a b c few was passed turned =
    let frame = was.tight.framed.sheets in
    record {
      tight = tight_trans m n a b was.tight k c passed.tight;
      begun = turned.begun;
      holds = λ s hs covers rest q.
          let mask = get_or masks s 0 in
          let hn : s < n.count = subst (λ x. s < x) (sym frame.count) hs in
          passed.holds s hn (subst (λ x. Covering x mask) (sym (frame.scope s)) covers) (λ r. was.holds s hs covers rest r) (turned.quiet mask s n.count hn (omega arith) q);
    }

-- where no sheet waits, all hold what is open
pub holding_all : (m n : Binding) (masks : List ℕ) (lost : ℕ) (w : Waiting) (a b : List ℕ) → Going m n masks lost w a b → w.late ≡ 0 → (s : ℕ) → s < m.count → Covering (m.scope s) (get_or masks s 0) → Rests m masks a lost s
    → Holding n b s
holding_all m n masks lost w a b was none s hs covers rest = was.holds s hs covers rest (quiet_all w b (get_or masks s 0) s was.begun none)
