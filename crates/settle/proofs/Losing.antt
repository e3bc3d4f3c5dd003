-- Boxes in which a slot lost an option. Assumes nothing.
use Rattle.std.proofs.Common.{◌≡◌, ℕ, ◌<◌, Bool, true, false, T, not, ◌^◌, List, length, get_or, Decides, MatchBool, refl, subst, arith}
use Rattle.std.proofs.lemmas.Bool.{false≢true}
use Rattle.subject.specs.Boxes.{Inside, opened}
use Rattle.subject.proofs.Bits as Number
use Rattle.boxes.specs.Boxes.{opens, Within, Bit, Differ}
use Rattle.boxes.specs.Slots.{Changed}
use Rattle.boxes.proofs.Bits.{open_there, open_low}
use Rattle.boxes.proofs.Counting.{opens_is, opened_lt, differ_there}
use Rattle.settle.specs.Settled.{Loses}

two_ways : (t u : Bool) → (t ≡ u → ⊥) → (T t → T u) → (T t → ⊥) × T u
two_ways true true ne h = absurd (ne refl)
two_ways true false ne h = absurd (h tt)
two_ways false true ne h = (λ t. t, tt)
two_ways false false ne h = absurd (ne refl)

pub loses_differ : (b c : List ℕ) → Within c b → Differ c b → Loses b c
loses_differ b c less d =
    let w = two_ways (opens c d.slot d.option) (opens b d.slot d.option) d.apart (λ t. (opens_is b _ _).1 (less _ _ ((opens_is c _ _).0 t))) in
    record { slot = d.slot; option = d.option; was = (opens_is b _ _).0 w.1; gone = λ x. w.0 ((opens_is c _ _).1 x) }

-- some slot changed
pub loses_some : (b c : List ℕ) (lost : ℕ) → Within c b → Changed c b 48 lost → (lost ≡ 0 → ⊥) → Loses b c
unfolding Bit
loses_some b c lost less changed ne =
    let k = Number.some_bit lost lost (omega arith) ne in
    loses_differ b c less (changed.other k.0 k.1).1

-- a test whether the cells of a slot are the same
pub differ_decided : (b c : List ℕ) (s : ℕ) (t : Bool) → s < 48 → get_or b s 0 < 2 ^ 32 → get_or c s 0 < 2 ^ 32 → Decides t (get_or b s 0 ≡ get_or c s 0) → MatchBool (not t) (Differ b c) (get_or b s 0 ≡ get_or c s 0)
differ_decided b c s true low hb hc d = d.0 refl
differ_decided b c s false low hb hc d = (differ_there b c s low hb hc (λ e. absurd (false≢true (d.1 e)))).0

pub loses_before : (b c e : List ℕ) → Within c b → Loses c e → Loses b e
loses_before b c e less l = record { slot = l.slot; option = l.option; was = less _ _ l.was; gone = l.gone }

pub loses_after : (b c e : List ℕ) → Within e c → Loses b c → Loses b e
loses_after b c e less l = record { slot = l.slot; option = l.option; was = l.was; gone = λ x. l.gone (less _ _ x) }

-- where a slot lost an option, less is open
pub loses_less : (b c : List ℕ) → length b ≡ 48 → Within c b → Loses b c → opened (opens c) < opened (opens b)
loses_less b c long less l =
    let inside : Inside (opens c) (opens b) = λ s o t. (opens_is b s o).1 (less s o ((opens_is c s o).0 t)) in
    opened_lt (opens c) (opens b) l.slot l.option inside (subst (λ x. l.slot < x) long (open_there b _ _ l.was)) (open_low b _ _ l.was) (λ t. l.gone ((opens_is c _ _).0 t)) ((opens_is b _ _).1 l.was)
