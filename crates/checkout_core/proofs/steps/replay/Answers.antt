use Rattle.std.proofs.Common.{arith}
use Rattle.std.proofs.lemmas.Option.{slice_get-get_or}
use Rattle.checkout_core.proofs.Replays.{replay_more}
use Rattle.checkout_core.proofs.steps.replay.Goals as goal

pub loop-at-preserved : goal.loop-at-preserved
loop-at-preserved c =
    replay_more c.args.state.now c.loop-at.state c.step.new.state c.args.events.now c.loop-at.at _
    (slice_get-get_or c.args.events.now c.loop-at.at _ (omega arith)) c.loop-at.invariant c.in-Ok.ensures
