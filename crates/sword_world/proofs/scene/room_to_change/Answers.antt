use Rattle.dk_txn.proofs.Kit.{then_does, give_does, halts}
use Rattle.sword_world.specs.Rules.{room_to_change}
use Rattle.sword_world.proofs.scene.room_to_change.Goals as goal

pub returns-in_err-id : goal.returns-in_err-id
unfolding room_to_change
returns-in_err-id g c = halts _ (rw c.in_ok-name.ensures at c.in_err-id.ensures.does) c.from_residual-in_err-id.ensures.1

pub returns-in_err-room : goal.returns-in_err-room
unfolding room_to_change
returns-in_err-room g c = then_does _ (rw c.in_ok-name.ensures at c.in_ok-id.ensures.does) (halts _ (rw c.of-place.ensures at c.in_err-room.ensures.does) c.from_residual-in_err-room.ensures.1)

pub returns : goal.returns
unfolding room_to_change
returns g c = rw c.of-place.ensures (then_does _ (rw c.in_ok-name.ensures at c.in_ok-id.ensures.does) (then_does _ (rw c.of-place.ensures at c.in_ok-room.ensures.does) give_does))
