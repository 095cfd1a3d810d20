use Rattle.dk_txn.proofs.Kit.{then_does, give_does, halts}
use Rattle.sword_world.specs.Rules.{player_under}
use Rattle.sword_world.proofs.scene.player_under.Goals as goal

pub returns-in_err-id : goal.returns-in_err-id
unfolding player_under
returns-in_err-id g c = halts _ c.in_err-id.ensures.does c.from_residual.ensures.1

pub returns-in_err-player : goal.returns-in_err-player
unfolding player_under
returns-in_err-player g c = then_does _ c.in_ok-id.ensures.does (halts _ (rw c.of-me.ensures at c.in_err-player.ensures.does) c.from_residual-in_err-player.ensures.1)

pub returns : goal.returns
unfolding player_under
returns g c = rw c.of-me.ensures (then_does _ c.in_ok-id.ensures.does (then_does _ (rw c.of-me.ensures at c.in_ok-player.ensures.does) give_does))
