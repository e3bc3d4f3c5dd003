-- Lines that are answered batch by batch, as they are read. Assumes nothing.
use Rattle.std.proofs.Common.{◌≡◌, ℕ, zero, suc, ◌+◌, ◌-◌, ◌<◌, ◌≤◌, ◌⊎◌, List, [], ◌++◌, map, length, get_or, take, drop, Option, Result, Ok, Err, IfOk, sym, refl, ap, ◌∙◌, subst, inl, inr, arith, length-append, length-take}
use Rattle.std.proofs.Math.Seq.{take-add}
use Rattle.std.proofs.lemmas.List.{length-take-le, length-drop, take-append-le, take_at, drop_at, take_all, drop-take, take-take, get_or-drop, get_or-take, get_or_append_left, map-append}
use Rattle.std.proofs.lemmas.List.Concat.{flat_map-append}
use Rattle.std.specs.Io.KnownBytes.{Consumes, Appends, IsAtEnd}
use Rattle.std.proofs.KnownBytes.{Consumes-nil, Consumes-trans, Appends-nil, Appends-trans}
use Rattle.binder.specs.declared.binders.Binder.{Ghosts}
use Rattle.binder.specs.Meaning.{Binding}
use Rattle.commands.specs.Lines.{lines_of, Whole}
use Rattle.commands.specs.Parsing.{call_of}
use Rattle.commands.proofs.Splitting.{cut_whole}
use Rattle.session.specs.Runs.{logged}
use Rattle.session.specs.Law.{Ran}
use Rattle.session.specs.declared.state.Session.{Session}
use Rattle.session.proofs.Laws.{led_law}
use Rattle.session.proofs.Batches.{ran_on}
use Rattle.dialogue.specs.Talk.{calls_in, reply_line, Answered, Served}

-- the front of an input ends where a line does, or is empty
abbrev pub Cut : List ℕ → ℕ → Type 0
Cut read n = (n ≡ 0) ⊎ (get_or read (n - 1) 0 ≡ 10)

-- more behind it changes nothing there
cut_on : (read more : List ℕ) (from : ℕ) → from ≤ length read → Cut read from → Cut (read ++ more) from
cut_on read more from h (inl e) = inl e
cut_on read more zero h (inr e) = inl refl
cut_on read more (suc n) h (inr e) = inr (get_or_append_left read more 0 (suc n - 1) (omega arith) ∙ e)

-- a front that ends where a line does has lines of its own
lines_on : (read more : List ℕ) → Cut read (length read) → lines_of (read ++ more) ≡ lines_of read ++ lines_of more
lines_on read more cut =
    let n = length read in
    cut_whole n (read ++ more) (omega (arith, length-append read more)) (cut_on read more n (omega arith) cut)
    ∙ (λ i. lines_of (take_at read more n refl i) ++ lines_of (drop_at read more n refl i))

-- the front of what was read ends there too
cut_front : (read : List ℕ) (from : ℕ) → from ≤ length read → Cut read from → Cut (take from read) (length (take from read))
cut_front read from h (inl e) = inl (length-take-le from read h ∙ e)
cut_front read zero h (inr e) = inl (length-take-le zero read h)
cut_front read (suc n) h (inr e) =
    let long : length (take (suc n) read) ≡ suc n = length-take-le (suc n) read h in
    inr (ap (λ k. get_or (take (suc n) read) (k - 1) 0) long ∙ get_or-take (suc n) read (suc n - 1) 0 (omega arith) ∙ e)

-- and so it does behind more whole lines
cut_more : (read : List ℕ) (from n : ℕ) → Cut read from → Cut (drop from read) n → Cut read (from + n)
cut_more read from n cut (inl e) = subst (Cut read) (omega (arith, e)) cut
cut_more read from zero cut (inr e) = subst (Cut read) (omega arith) cut
cut_more read from (suc n) cut (inr e) = inr (ap (λ k. get_or read k 0) (omega arith) ∙ sym (get_or-drop from read (suc n - 1) 0) ∙ e)

-- a part of a buffer, and a front of that part
part : (xs : List ℕ) (from to : ℕ) → from ≤ to → take (to - from) (drop from xs) ≡ drop from (take to xs)
part xs from to h = let is : from + (to - from) ≡ to = omega arith in sym (drop-take from (to - from) xs) ∙ ap (λ k. drop from (take k xs)) is

part_front : (xs : List ℕ) (from n to : ℕ) → from + n ≤ to → take (from + n - from) (drop from xs) ≡ take n (drop from (take to xs))
part_front xs from n to h =
    let is : from + n - from ≡ n = omega arith in
    ap (λ k. take k (drop from xs)) is ∙ sym (take-take n (to - from) (drop from xs) (omega arith)) ∙ ap (take n) (part xs from to (omega arith))

module _ {B : Type 0} {bound : Ghosts B} (meaning : B → Binding) where
  -- no line was answered
  answered_none : (s : Session B bound) → Answered meaning [] [] s s
  answered_none s = record {
    replies = [];
    worded = refl;
    each = refl;
    ran = λ P L h. record { led = h; law = led_law meaning P L s h; fitting = λ i lt. absurd (omega arith) };
  }

  -- the lines of an input, and then those of another behind it
  answered_on : (input more words said : List ℕ) (s t u : Session B bound) → lines_of (input ++ more) ≡ lines_of input ++ lines_of more
      → Answered meaning input words s t → Answered meaning more said t u → Answered meaning (input ++ more) (words ++ said) s u
  answered_on input more words said s t u split a b =
      let all : calls_in (input ++ more) ≡ calls_in input ++ calls_in more = ap (map call_of) split ∙ map-append call_of (lines_of input) (lines_of more) in
      record {
        replies = a.replies ++ b.replies;
        worded = (λ i. a.worded i ++ b.worded i) ∙ sym (flat_map-append reply_line a.replies b.replies);
        each = omega (arith, length-append a.replies b.replies, length-append (calls_in input) (calls_in more), ap length all, a.each, b.each);
        ran = λ P L h.
            let first = a.ran P L h in
            let both = ran_on meaning P L 48 (calls_in input) (calls_in more) a.replies b.replies t u a.each first (b.ran P (logged 48 (calls_in input) a.replies (length a.replies) L) first.led) in
            subst (λ l. Ran {bound = bound} meaning P L l (a.replies ++ b.replies) (length (a.replies ++ b.replies)) 48 u) (sym all) both;
      }

  -- Of an input that had some bytes and has those left some were read, and of these the lines of the first `from` were
  -- answered.
  pub record Going (had left was is : Option (List ℕ)) (read : List ℕ) (from : ℕ) (s t : Session B bound) : Type 0 where
    pub within : from ≤ length read
    pub cut : Cut read from
    pub taken : Consumes had left read
    pub words : List ℕ
    pub written : Appends was is words
    pub answered : Answered meaning (take from read) words s t

  pub going_none : (had was : Option (List ℕ)) (s : Session B bound) → Going had had was was [] 0 s s
  going_none had was s = record {
    within = omega arith;
    cut = inl refl;
    taken = Consumes-nil had;
    words = [];
    written = Appends-nil was;
    answered = answered_none s;
  }

  -- more was read
  pub going_read : (had left less was is : Option (List ℕ)) (read more : List ℕ) (from : ℕ) (s t : Session B bound) → Consumes left less more
      → Going had left was is read from s t → Going had less was is (read ++ more) from s t
  going_read had left less was is read more from s t took g = record {
    within = omega (arith, length-append read more, g.within);
    cut = cut_on read more from g.within g.cut;
    taken = Consumes-trans had left less read more g.taken took;
    words = g.words;
    written = g.written;
    answered = subst (λ l. Answered meaning l g.words s t) (sym (take-append-le from read more g.within)) g.answered;
  }

  -- and lines of it were answered, or all that is left
  module _ (had left was is now : Option (List ℕ)) (read said : List ℕ) (from n : ℕ) (s t u : Session B bound) (g : Going had left was is read from s t) (wrote : Appends is now said)
      (more : Answered meaning (take n (drop from read)) said t u) where
    both : Answered meaning (take (from + n) read) (g.words ++ said) s u
    both =
        let split = lines_on (take from read) (take n (drop from read)) (cut_front read from g.within g.cut) in
        subst (λ l. Answered meaning l (g.words ++ said) s u) (sym (take-add from n read)) (answered_on (take from read) (take n (drop from read)) g.words said s t u split g.answered more)

    pub going_said : Whole (drop from read) n → Going had left was now read (from + n) s u
    going_said whole = record {
      within = omega (arith, whole.within, length-drop from read, g.within);
      cut = cut_more read from n g.cut whole.ended;
      taken = g.taken;
      words = g.words ++ said;
      written = Appends-trans was is now g.words said g.written wrote;
      answered = both;
    }

    pub going_done : from + n ≡ length read → length read ≤ 65536 → (length read < 65536 → IsAtEnd left) → Served meaning had left was now s u
    going_done all within whole = record {
      input = read;
      taken = g.taken;
      within = within;
      whole = whole;
      words = g.words ++ said;
      written = Appends-trans was is now g.words said g.written wrote;
      answered = subst (λ l. Answered meaning l (g.words ++ said) s u) (take_all (from + n) read (omega (arith, all))) both;
    }

  -- one read into a buffer, and the whole lines that it gave
  pub going_turn : (had left less was is now : Option (List ℕ)) (old new said : List ℕ) (from to came n : ℕ) (s t u : Session B bound) → from ≤ to → take to new ≡ take to old
      → Consumes left less (take came (drop to new)) → Whole (take (to + came - from) (drop from new)) n → Appends is now said → Answered meaning (take (from + n - from) (drop from new)) said t u
      → Going had left was is (take to old) from s t → Going had less was now (take (to + came) new) (from + n) s u
  going_turn had left less was is now old new said from to came n s t u h front took whole wrote more g =
      let read : take (to + came) new ≡ take to old ++ take came (drop to new) = take-add to came new ∙ ap (λ l. l ++ take came (drop to new)) front in
      let gone = subst (λ l. Going had less was is l from s t) (sym read) (going_read had left less was is (take to old) (take came (drop to new)) from s t took g) in
      let these = part new from (to + came) (omega arith) in
      let some : n ≤ to + came - from = omega (arith, whole.within, length-take (to + came - from) (drop from new)) in
      going_said had less was is now (take (to + came) new) said from n s t u gone wrote
      (subst (λ l. Answered meaning l said t u) (part_front new from n (to + came) (omega (arith, some))) more)
      (subst (λ l. Whole l n) these whole)

  -- and at the end the rest
  pub going_end : {E : Type 0} (had left was is now : Option (List ℕ)) (buffer : List ℕ) (from to : ℕ) (s t : Session B bound) (r : Result (Session B bound) E) → from ≤ to → to ≤ length buffer → to ≤ 65536
      → (to < 65536 → IsAtEnd left) → IfOk r (λ u. (said : List ℕ) × Appends is now said × Answered meaning (take (to - from) (drop from buffer)) said t u)
      → Going had left was is (take to buffer) from s t → IfOk r (λ u. Served meaning had left was now s u)
  going_end had left was is now buffer from to s t (Ok u) h room within whole (said, wrote, more) g =
      let long : length (take to buffer) ≡ to = length-take-le to buffer room in
      let rest : take (to - from) (drop from buffer) ≡ take (to - from) (drop from (take to buffer)) =
      part buffer from to h ∙ sym (take_all (to - from) (drop from (take to buffer)) (omega (arith, long, length-drop from (take to buffer)))) in
      going_done had left was is now (take to buffer) said from (to - from) s t u g wrote (subst (λ l. Answered meaning l said t u) rest more)
      (omega (arith, long, h)) (omega (arith, long)) (λ lt. whole (omega (arith, long)))
  going_end had left was is now buffer from to s t (Err e) h room within whole spoke g = tt
