use Rattle.std.proofs.Common.{◌∙◌}
use Rattle.dk_disk.proofs.Replays.{replayed_next}
use Rattle.dk_disk.proofs.replay.Replay.at_moment.Goals as goal

pub calls-preserved : goal.calls-preserved
calls-preserved c = replayed_next c.args.moment c.args.side c.args.calls.now c.calls.at _ _ _ c.call.ensures.call c.in_ok-apply.ensures ∙ c.calls.invariant
