use Rattle.dk_txn.proofs.Kit.{then_does, give_does, stops}
use Rattle.sword_world.specs.Rules.{scene}
use Rattle.sword_world.proofs.scene.find_scene.Goals as goal

pub returns-in_err-me : goal.returns-in_err-me
unfolding scene
returns-in_err-me g c = stops _ c.in_err-me.ensures c.from_residual.ensures.1

pub returns-in_err-place : goal.returns-in_err-place
unfolding scene
returns-in_err-place g c = then_does _ c.in_ok-me.ensures (stops _ c.in_err-place.ensures c.from_residual-in_err-place.ensures.1)

pub returns : goal.returns
unfolding scene
returns g c = then_does _ c.in_ok-me.ensures (then_does _ c.in_ok-place.ensures give_does)
