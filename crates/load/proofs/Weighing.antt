-- A table that is read from weights says what they say. Assumes nothing.
use Rattle.std.proofs.Common.{◌≡◌, ℕ, suc, ◌+◌, ◌*◌, ◌/◌, ◌%◌, ◌<◌, true, false, ◌&&◌, eqb, ltb, List, [], ◌∷◌, ◌++◌, length, get_or, drop, set, replicate, ℤ, pos, ◌+ℤ◌, sym, refl, ap, ◌∙◌, subst, ap₂, ⊎_elim, arith, append_assoc, length-append, length-set, get_or-set_other, get_or-set_same}
use Rattle.std.proofs.lemmas.List.{append-nil, get_or-append-add, get_or_append_left, get_or-replicate, get_or_past, drop_more, drop_all}
use Rattle.std.proofs.lemmas.Bool.{cases_eq, cases_lt, and_from, and_left, and_right, and_parts, eq-eqb, ne_eqb, ltb-true, cond-true, cond-false}
use Rattle.catalogue.specs.Content.{Weight}
use Rattle.catalogue.specs.Checks.{all, signed_two}
use Rattle.sheets.specs.Rules.{weight_in, total_from}
use Rattle.load.specs.Joins.{weigh}
use Rattle.load.specs.Sums.{sums}
use Rattle.load.specs.Weights.{weight_of, weighs}
use Rattle.load.specs.Given.{no_weight, Gives, Tells, TellsAll}

-- with no weight all is 0
pub tells_none : Tells (replicate 8 (replicate 32 (pos 0))) []
unfolding weight_of
tells_none =
    record {
      is = λ p o h. ⊎_elim
          (λ lt. ap (λ l. get_or l o (pos 0)) (get_or-replicate 8 p (replicate 32 (pos 0)) [] lt) ∙ get_or-replicate 32 o (pos 0) (pos 0) h)
          (λ ge. ap (λ l. get_or l o (pos 0)) (get_or_past (replicate 8 (replicate 32 (pos 0))) p [] ge))
          (cases_lt p 8);
    }

-- the table with one weight written over
abbrev pub written : List (List ℤ) → ℕ → ℕ → ℤ → List (List ℤ)
written table p o z = set table p (set (get_or table p []) o z)

-- one weight in front, written into the table
module _ (table : List (List ℤ)) (w : Weight) (ws : List Weight) (here : w.position < length table) (known : w.option < length (get_or table w.position [])) where
  same_place : (p o : ℕ) → p ≡ w.position → o ≡ w.option → weighs (written table w.position w.option w.amount) p o ≡ weight_in (w ∷ ws) p o
  unfolding weight_of
  same_place p o e f =
      ap₂ (λ q u. get_or (get_or (written table w.position w.option w.amount) q []) u (pos 0)) e f
      ∙ ap (λ l. get_or l w.option (pos 0)) (get_or-set_same table w.position (set (get_or table w.position []) w.option w.amount) [] here)
      ∙ get_or-set_same (get_or table w.position []) w.option w.amount (pos 0) known
      ∙ sym (cond-true (eqb w.position p && eqb w.option o) w.amount (weight_in ws p o) (and_from (eqb w.position p) (eqb w.option o) (eq-eqb w.position p (sym e)) (eq-eqb w.option o (sym f))))

  other_option : (p o : ℕ) → p ≡ w.position → (o ≡ w.option → ⊥) → weighs (written table w.position w.option w.amount) p o ≡ weighs table p o
  unfolding weight_of
  other_option p o e ne =
      ap (λ q. get_or (get_or (written table w.position w.option w.amount) q []) o (pos 0)) e
      ∙ ap (λ l. get_or l o (pos 0)) (get_or-set_same table w.position (set (get_or table w.position []) w.option w.amount) [] here)
      ∙ get_or-set_other (get_or table w.position []) w.option o w.amount (pos 0) ne
      ∙ ap (λ q. get_or (get_or table q []) o (pos 0)) (sym e)

  other_position : (p o : ℕ) → (p ≡ w.position → ⊥) → weighs (written table w.position w.option w.amount) p o ≡ weighs table p o
  unfolding weight_of
  other_position p o ne = ap (λ l. get_or l o (pos 0)) (get_or-set_other table w.position p (set (get_or table w.position []) w.option w.amount) [] ne)

  not_here : (p o : ℕ) → (eqb w.position p && eqb w.option o) ≡ false → weight_in (w ∷ ws) p o ≡ weight_in ws p o
  not_here p o e = cond-false (eqb w.position p && eqb w.option o) w.amount (weight_in ws p o) e

  pub tells_more : Tells table ws → Tells (written table w.position w.option w.amount) (w ∷ ws)
  tells_more was =
      record {
        is = λ p o h. ⊎_elim
            (λ e. ⊎_elim
            (λ f. same_place p o e f)
            (λ ne. other_option p o e ne ∙ was.is p o h ∙ sym (not_here p o (and_right (eqb w.position p) (eqb w.option o) (ne_eqb w.option o (λ f. ne (sym f))))))
            (cases_eq o w.option))
            (λ ne. other_position p o ne ∙ was.is p o h ∙ sym (not_here p o (and_left (eqb w.position p) (eqb w.option o) (ne_eqb w.position p (λ f. ne (sym f))))))
            (cases_eq p w.position);
      }

-- Of some entries, those after `rest` are in the table; what lies before it fills no weight.
pub record Reading (entries : List ℕ) (table : List (List ℤ)) (before rest : List ℕ) : Type 0 where
  pub after : List ℕ
  pub parts : entries ≡ before ++ (rest ++ after)
  pub few : length before ≡ length entries % 5
  pub fives : length rest % 5 ≡ 0
  pub long : length table ≡ 8
  pub wide : (p : ℕ) → p < 8 → length (get_or table p []) ≡ 32
  pub tells : (ws : List Weight) → Gives entries ws → Tells table (drop (length rest / 5) ws)

pub reading_none : (entries before rest : List ℕ) → entries ≡ before ++ rest → length before ≡ length entries % 5 → Reading entries (replicate 8 (replicate 32 (pos 0))) before rest
reading_none entries before rest e few =
    let sizes : length entries ≡ length before + length rest = ap length e ∙ simp length-append in
    record {
      after = [];
      parts = e ∙ ap (λ l. before ++ l) (sym (append-nil rest));
      few = few;
      fives = omega arith;
      long = refl;
      wide = λ p h. ap length (get_or-replicate 8 p (replicate 32 (pos 0)) [] h);
      tells = λ ws g. subst (Tells (replicate 8 (replicate 32 (pos 0)))) (sym (drop_all (length rest / 5) ws (omega (arith, g.long)))) tells_none;
    }

-- the last weight of the rest
module _ (entries : List ℕ) (table : List (List ℤ)) (before rest others weight : List ℕ) (was : Reading entries table before rest) (e : rest ≡ others ++ weight) (five : length weight ≡ 5) where
  sizes : length rest ≡ length others + 5
  sizes = ap length e ∙ simp length-append (omega arith)

  module _ (ws : List Weight) (g : Gives entries ws) where
    there : length others / 5 < length ws
    there = omega (arith, sizes, was.fives, g.long, was.few, ap length was.parts, length-append before (rest ++ was.after), length-append rest was.after)

    byte : (k : ℕ) → k < 5 → get_or weight k 0 ≡ get_or entries (5 * (length others / 5) + k) 0
    byte k h =
        let place : 5 * (length others / 5) + k ≡ length before + (length others + k) = omega (arith, sizes, was.fives, g.long, was.few) in
        sym
        (ap (λ i. get_or entries i 0) place
        ∙ ap (λ l. get_or l (length before + (length others + k)) 0) was.parts
        ∙ get_or-append-add before (rest ++ was.after) (length others + k) 0
        ∙ get_or_append_left rest was.after 0 (length others + k) (omega (arith, sizes))
        ∙ ap (λ l. get_or l (length others + k) 0) e
        ∙ get_or-append-add others weight k 0)

    pub position_known : get_or weight 1 0 < 8
    position_known = omega (arith, byte 1 (omega arith), g.position (length others / 5) there, g.placed (length others / 5) there)

    pub option_known : get_or weight 2 0 < 32
    option_known = omega (arith, byte 2 (omega arith), g.option (length others / 5) there, g.known (length others / 5) there)

    told : (z : ℤ) → z ≡ signed_two (get_or weight 3 0 ∷ get_or weight 4 0 ∷ []) → Tells (written table (get_or weight 1 0) (get_or weight 2 0) z) (drop (length others / 5) ws)
    told z same =
        let i : ℕ = length others / 5 in
        let w = get_or ws i no_weight in
        let p : get_or weight 1 0 ≡ w.position = byte 1 (omega arith) ∙ g.position i there in
        let o : get_or weight 2 0 ≡ w.option = byte 2 (omega arith) ∙ g.option i there in
        let a : z ≡ w.amount = same ∙ ap₂ (λ x y. signed_two (x ∷ y ∷ [])) (byte 3 (omega arith)) (byte 4 (omega arith)) ∙ g.amount i there in
        let next : length rest / 5 ≡ i + 1 = omega (arith, sizes, was.fives) in
        let before_it = subst (λ n. Tells table (drop n ws)) next (was.tells ws g) in
        let placed = g.placed i there in
        let more = tells_more table w (drop (i + 1) ws) (omega (arith, was.long)) (omega (arith, was.wide w.position placed, g.known i there)) before_it in
        let here : Tells (written table (get_or weight 1 0) (get_or weight 2 0) z) (w ∷ drop (i + 1) ws) =
        subst (λ q. Tells (written table q (get_or weight 2 0) z) (w ∷ drop (i + 1) ws)) (sym p)
        (subst (λ u. Tells (written table w.position u z) (w ∷ drop (i + 1) ws)) (sym o)
        (subst (λ y. Tells (written table w.position w.option y) (w ∷ drop (i + 1) ws)) (sym a) more)) in
        subst (Tells (written table (get_or weight 1 0) (get_or weight 2 0) z)) (sym (drop_more ws i no_weight there)) here

  pub reading_more : (z : ℤ) → z ≡ signed_two (get_or weight 3 0 ∷ get_or weight 4 0 ∷ []) → Reading entries (written table (get_or weight 1 0) (get_or weight 2 0) z) before others
  reading_more z same =
      record {
        after = weight ++ was.after;
        parts = was.parts ∙ ap (λ l. before ++ (l ++ was.after)) e ∙ ap (λ l. before ++ l) (append_assoc others weight was.after);
        few = was.few;
        fives = omega (arith, sizes, was.fives);
        long = simp length-set was.long;
        wide = λ p h. kept p h;
        tells = λ ws g. told ws g z same;
      }
    where
      kept : (p : ℕ) → p < 8 → length (get_or (written table (get_or weight 1 0) (get_or weight 2 0) z) p []) ≡ 32
      kept p h = ⊎_elim
          (λ same_p. ap (λ q. length (get_or (written table (get_or weight 1 0) (get_or weight 2 0) z) q [])) same_p ∙ ap length (get_or-set_same table (get_or weight 1 0) (set (get_or table (get_or weight 1 0) []) (get_or weight 2 0) z) [] (omega (arith, was.long))) ∙ simp length-set (was.wide (get_or weight 1 0) (omega arith)))
          (λ ne. ap length (get_or-set_other table (get_or weight 1 0) p (set (get_or table (get_or weight 1 0) []) (get_or weight 2 0) z) [] ne) ∙ was.wide p h)
          (cases_eq p (get_or weight 1 0))

-- no weight is left
pub reading_all : (entries : List ℕ) (table : List (List ℤ)) (before rest : List ℕ) → Reading entries table before rest → length rest < 5 → TellsAll entries table
reading_all entries table before rest was few ws g =
    let none : length rest / 5 ≡ 0 = omega arith in
    subst (λ n. Tells table (drop n ws)) none (was.tells ws g)

-- weighed by the table or by the weights, a list weighs the same
weigh_from : (ws : List Weight) (w : ℕ → ℕ → ℤ) (p : ℕ) (l : List ℕ) → all (λ o. ltb o 32) l ≡ true → ((q o : ℕ) → o < 32 → w q o ≡ weight_in ws (p + q) o) → weigh sums w l ≡ total_from ws p l
weigh_from ws w p [] low same = refl
weigh_from ws w p (o ∷ l) low same =
    let parts = and_parts (ltb o 32) (all (λ o. ltb o 32) l) low in
    let here : p + 0 ≡ p = omega arith in
    ap₂ ◌+ℤ◌
    (same 0 o (ltb-true o 32 parts.0) ∙ ap (λ q. weight_in ws q o) here)
    (weigh_from ws (λ q. w (suc q)) (suc p) l parts.1 (λ q u h. let further : p + suc q ≡ suc p + q = omega arith in same (suc q) u h ∙ ap (λ k. weight_in ws k u) further))

pub weigh_total : (table : List (List ℤ)) (ws : List Weight) (l : List ℕ) → Tells table ws → all (λ o. ltb o 32) l ≡ true → weigh sums (weighs table) l ≡ total_from ws 0 l
weigh_total table ws l t low =
    weigh_from ws (weighs table) 0 l low (λ q o h. let here : q ≡ 0 + q = omega arith in t.is q o h ∙ ap (λ k. weight_in ws k o) here)
