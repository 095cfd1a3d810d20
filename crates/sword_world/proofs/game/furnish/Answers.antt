use Rattle.dk_txn.proofs.Kit.{then_does, then_last, halts, halts_last}
use Rattle.sword_world.specs.Rules.{furnish}
use Rattle.sword_world.proofs.game.furnish.Goals as goal

pub returns-in_err-place : goal.returns-in_err-place
unfolding furnish
returns-in_err-place g c = halts _ (rw c.in_ok-room.ensures at c.in_err-place.ensures.does) c.from_residual-in_err-place.ensures.1

pub returns-in_err-bind : goal.returns-in_err-bind
unfolding furnish
returns-in_err-bind g c =
    then_does _ (rw c.in_ok-room.ensures at c.in_ok-place.ensures.does) (halts_last (rw (c.in_ok-name.ensures, c.id.ensures) at c.in_err-bind.ensures.does) c.from_residual-in_err-bind.ensures.1)

pub returns : goal.returns
unfolding furnish
returns g c = then_does _ (rw c.in_ok-room.ensures at c.in_ok-place.ensures.does) (then_last (rw (c.in_ok-name.ensures, c.id.ensures) at c.in_ok-bind.ensures.does))
