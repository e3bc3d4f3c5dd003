-- The binder's marks as an exploration begins, drops a box, splits one, and ends. Assumes nothing.
use Rattle.std.proofs.Common.{◌≡◌, ℕ, zero, suc, ◌+◌, ◌-◌, ◌<◌, sym, refl, ◌∙◌, subst, ⊎_elim, arith}
use Rattle.std.proofs.lemmas.Bool.{cases_eq}
use Rattle.subject.specs.Problem.{Problem}
use Rattle.subject.specs.Boxes.{Box, Inside}
use Rattle.binder.specs.Meaning.{Binding, SameSheets, SameLists, Noted, Undone}
use Rattle.settle.specs.Keeping.{Has, Keeps, Framed}
use Rattle.settle.proofs.Keeping.{keeps_less, keeps_same}
use Rattle.explore.specs.Rewound.{Rewound}
use Rattle.explore.specs.Levels.{level, Levels}
use Rattle.explore.proofs.Waiting.{below_or}

pub has_sheets : (P : Problem) (m n : Binding) → Has P m → SameSheets m n → Has P n
has_sheets P m n h f = record { sheets = f.count ∙ h.sheets; scope = λ k. f.scope k ∙ h.scope k }

-- ---- marks undone

pub rewound_none : (m : Binding) → Rewound m m 0
rewound_none m = record {
  sheets = record { count = refl; scope = λ s. refl };
  marks = omega arith;
  same = λ s e l. refl;
  at = λ s h. absurd (omega arith);
  older = λ i s h l. refl;
}

pub rewound_more : (m n o : Binding) (k : ℕ) → Rewound m n k → Undone n o → Rewound m o (k + 1)
rewound_more m n o k was undid =
    let one : n.marks ≡ o.marks + 1 = undid.marks in
    let few : n.marks ≡ m.marks - k = was.marks in
    record {
      sheets = record { count = undid.sheets.count ∙ was.sheets.count; scope = λ s. undid.sheets.scope s ∙ was.sheets.scope s };
      marks = omega arith;
      same = λ s e. absurd (omega arith);
      at = λ s h l. undid.kept s l ∙ was.older o.marks s (omega arith) l;
      older = λ i s h l. undid.older i s h l ∙ was.older i s (omega arith) l;
    }

-- there was no mark to undo
pub rewound_still : (m n : Binding) (k : ℕ) → Rewound m n k → n.marks ≡ 0 → Rewound m n (k + 1)
rewound_still m n k was none =
    record { sheets = was.sheets; marks = omega (arith, was.marks, none); same = was.same; at = was.at; older = was.older }

-- what was shown since the newest mark is undone with it
pub framed_rewound : (m k n : Binding) → Framed m k → 0 < m.marks → Rewound k n 1 → Rewound m n 1
framed_rewound m k n f some was =
    let few : n.marks ≡ k.marks - 1 = was.marks in
    let even : k.marks ≡ m.marks = f.marks in
    record {
      sheets = record { count = was.sheets.count ∙ f.sheets.count; scope = λ s. was.sheets.scope s ∙ f.sheets.scope s };
      marks = omega arith;
      same = λ s e. absurd (omega arith);
      at = λ s h l. was.at s (omega arith) l ∙ f.marked n.marks s l;
      older = λ i s h l. was.older i s h l ∙ f.marked i s l;
    }

-- ---- levels

module _ (P : Problem) (X : Box) (m : Binding) where
  -- a mark at the box that the exploration begins with, which is the one to be explored
  pub levels_begin : (K : ℕ → Box) (n : Binding) → K 0 ≡ X → Keeps P X m.kept → Noted m n → Levels P X m K 1 n
  levels_begin K n e keeps noted =
      let same : n.marks ≡ m.marks + 1 = noted.marks in
      record {
        marks = same;
        older = noted.older;
        marked = λ j h.
            let z : 0 ≡ j = omega arith in
            let q : m.marks ≡ m.marks + 0 = omega arith in
            subst (λ i. Keeps P (level X K i) (n.marked (m.marks + i))) z (subst (λ i. Keeps P X (n.marked i)) q (keeps_same P X _ _ noted.newest keeps));
        keeps = subst (λ Y. Keeps P Y n.kept) (sym e) (keeps_same P X _ _ noted.kept keeps);
      }

  -- the uppermost k boxes are dropped, and their marks undone
  pub levels_back : (K : ℕ → Box) (top t k : ℕ) (n o : Binding) → top ≡ t + k → Levels P X m K top n → Rewound n o k → Levels P X m K t o
  levels_back K top t k n o e was back =
      let few : o.marks ≡ n.marks - k = back.marks in
      let high : n.marks ≡ m.marks + top = was.marks in
      let here : o.marks ≡ m.marks + t = omega arith in
      record {
        marks = here;
        older = λ i s h l. back.older i s (omega arith) l ∙ was.older i s h l;
        marked = λ j h. keeps_same P _ _ _ (λ s. back.older (m.marks + j) s (omega arith)) (was.marked j (omega arith));
        keeps = ⊎_elim
            (λ z.
            let f : top ≡ t = omega arith in
            keeps_same P _ _ _ (λ s. back.same s (omega arith)) (subst (λ i. Keeps P (level X K i) n.kept) f was.keeps))
            (λ z. keeps_same P _ _ _ (λ s. back.at s (omega arith)) (subst (λ i. Keeps P (level X K t) (n.marked i)) (sym here) (was.marked t (omega arith))))
            (cases_eq k 0);
      }

  -- the uppermost box, where the binder then keeps what matters in C, is split: a mark at what is below, and the part above
  pub levels_split : (K J : ℕ → Box) (i : ℕ) (C : Box) (n k o : Binding) → Levels P X m K (suc i) n → Framed n k → Keeps P C k.kept → Noted k o
      → ((j : ℕ) → j < i → J j ≡ K j) → Inside (J i) C → Inside (J (suc i)) C → Levels P X m J (suc (suc i)) o
  levels_split K J i C n k o was framed keeps noted below rest first =
      let at : k.marks ≡ m.marks + suc i = framed.marks ∙ was.marks in
      let more : o.marks ≡ k.marks + 1 = noted.marks in
      let older : (j s : ℕ) → j < k.marks → SameLists (o.marked j s) (n.marked j s) = λ j s h l. noted.older j s h l ∙ framed.marked j s l in
      record {
        marks = omega arith;
        older = λ j s h l. older j s (omega arith) l ∙ was.older j s h l;
        marked = λ j h. ⊎_elim
            (λ lt. subst (λ Y. Keeps P Y (o.marked (m.marks + j))) (same_level j lt)
            (keeps_same P _ _ _ (λ s. older (m.marks + j) s (omega arith)) (was.marked j lt)))
            (λ e. subst (λ q. Keeps P (level X J q) (o.marked (m.marks + q))) (sym e)
            (subst (λ q. Keeps P (J i) (o.marked q)) at (keeps_same P _ _ _ noted.newest (keeps_less P C (J i) _ rest keeps))))
            (below_or j (suc i) h);
        keeps = keeps_same P _ _ _ noted.kept (keeps_less P C (J (suc i)) _ first keeps);
      }
    where
      same_level : (j : ℕ) → j < suc i → level X K j ≡ level X J j
      same_level zero h = refl
      same_level (suc j) h = sym (below j (omega arith))
