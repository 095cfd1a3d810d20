use Rattle.dk_txn.proofs.Kit.{then_does, give_does, halts}
use Rattle.sword_world.specs.Rules.{new_player}
use Rattle.sword_world.proofs.sessions.new_player.Goals as goal

pub returns-in_err-made : goal.returns-in_err-made
unfolding new_player
returns-in_err-made g c = halts _ (rw c.in_ok-clone.ensures.cases at c.in_err-made.ensures.does) c.from_residual-in_err-made.ensures.1

pub returns-in_err-bind : goal.returns-in_err-bind
unfolding new_player
returns-in_err-bind g c =
    then_does _ (rw c.in_ok-clone.ensures.cases at c.in_ok-made.ensures.does) (halts _ (rw (c.requires, c.id.ensures) at c.in_err-bind.ensures.does) c.from_residual-in_err-bind.ensures.1)

pub returns : goal.returns
unfolding new_player
returns g c =
    rw c.id-2.ensures (then_does _ (rw c.in_ok-clone.ensures.cases at c.in_ok-made.ensures.does) (then_does _ (rw (c.requires, c.id.ensures) at c.in_ok-bind.ensures.does) give_does))
