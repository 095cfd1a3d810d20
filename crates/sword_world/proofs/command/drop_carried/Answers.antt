use Rattle.dk_txn.proofs.Kit.{give_does, does_as}
use Rattle.sword_world.proofs.Commands.{dropped, dropped_none}
use Rattle.sword_world.proofs.command.drop_carried.Goals as goal

pub returns-in-Some : goal.returns-in-Some
returns-in-Some g c = does_as _ (dropped c.args.scene c.in-Some.item c.in-Some.is) c.put_down.ensures

pub returns-in_ok-empty_body-in-None : goal.returns-in_ok-empty_body-in-None
returns-in_ok-empty_body-in-None g c = rw c.in_ok-empty_body-in-None.ensures (does_as _ (dropped_none c.args.scene c.in-None.is) give_does)
