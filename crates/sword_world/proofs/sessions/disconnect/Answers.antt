use Rattle.dk_txn.proofs.Kit.{then_does, stops}
use Rattle.sword_world.specs.Rules.{disconnect}
use Rattle.sword_world.proofs.sessions.disconnect.Goals as goal

pub returns-in_err-scene : goal.returns-in_err-scene
unfolding disconnect
returns-in_err-scene g c = stops _ c.in_err-scene.ensures c.from_residual.ensures.1

pub returns : goal.returns
unfolding disconnect
returns g c = then_does _ c.in_ok-scene.ensures c.leave.ensures
