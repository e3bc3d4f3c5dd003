use Rattle.std.proofs.Common.{⊎_elim}
use Rattle.std.proofs.lemmas.Bool.{both_ways}
use Rattle.settle.proofs.Tight.{tight_trans}
use Rattle.settle.proofs.Losing.{loses_before, loses_less}
use Rattle.settle.proofs.Passing.{going_none, going_more}
use Rattle.settle.proofs.Keeping.{settled_same, settled_dry}
use Rattle.settle.proofs.settle.Goals as goal

pub rounds-init : goal.rounds-init
rounds-init g c = let new = c.new-waiting.ensures in going_none _ _ _ _ _ (g.B.Binder.proper c.args.binder.now).few new.begun new.late new.last

pub returns-then-not-round : goal.returns-then-not-round
returns-then-not-round g c =
    settled_dry _ _ _ _ c.args.slots _ _ c.none.result.cells (tight_trans _ _ _ _ c.rounds.invariant.tight _ _ c.round.ensures.tight)
    (λ a. both_ways _ c.if-not-round.true (c.round.ensures.alive.1 a)) c.none.ensures.none

pub returns-then-not-turn : goal.returns-then-not-turn
returns-then-not-turn g c =
    settled_same _ _ _ _ c.args.slots _ _ _
    (going_more _ _ _ _ _ _ _ _ _ _ _ (g.B.Binder.proper c.args.binder.now).few c.rounds.invariant (c.round.ensures.passed c.if-not-round.false) c.turn.ensures.turned)
    c.if-not-turn.ensures.lost (c.round.ensures.alive.0 c.if-not-round.false)

pub rounds-smaller : goal.rounds-smaller
rounds-smaller g c =
    let passed = c.round.ensures.passed c.if-not-round.false in
    loses_less _ _ c.rounds.slate.long passed.tight.within
    (⊎_elim (λ ne. passed.lost ne) (λ l. loses_before _ _ _ passed.less l) c.if-not-turn.ensures.lost)

pub rounds-preserved : goal.rounds-preserved
rounds-preserved g c =
    going_more _ _ _ _ _ _ _ _ _ _ _ (g.B.Binder.proper c.args.binder.now).few c.rounds.invariant (c.round.ensures.passed c.if-not-round.false) c.turn.ensures.turned
