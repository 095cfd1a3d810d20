use Rattle.dk_txn.proofs.Kit.{then_does, stops}
use Rattle.sword_world.specs.Rules.{log_in}
use Rattle.sword_world.proofs.sessions.log_in.Goals as goal

pub returns-in_err-player : goal.returns-in_err-player
unfolding log_in
returns-in_err-player g c = stops _ c.in_err-player.ensures c.from_residual.ensures.1

pub returns : goal.returns
unfolding log_in
returns g c = then_does _ c.in_ok-player.ensures c.enter.ensures
