use Rattle.dk_txn.proofs.Kit.{give_does}
use Rattle.dk_demos.specs.Commands.{message}
use Rattle.dk_demos.proofs.commands.message.Goals as goal

pub returns-in-None : goal.returns-in-None
unfolding message
returns-in-None g c = let none = rw c.as_slice.ensures at c.in-None.ensures in rw none give_does

pub returns : goal.returns
unfolding message
returns g c = let found = rw c.as_slice.ensures at c.in-Some.ensures in rw found (rw c.in_ok-session.ensures at c.obey_bytes.ensures)
