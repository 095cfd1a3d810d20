use Rattle.std.proofs.Common.{refl}
use Rattle.dk_txn.proofs.Kit.{if_true_does, if_false_does, fails}
use Rattle.dk_demos.specs.Commands.{obey_bytes}
use Rattle.dk_demos.proofs.commands.obey_bytes.Goals as goal

pub returns-in-None : goal.returns-in-None
unfolding obey_bytes
returns-in-None g c = if_false_does _ (rw c.in-None.is at c.in_ok-name_of.ensures) (fails refl)

pub returns-in-Some : goal.returns-in-Some
unfolding obey_bytes
returns-in-Some g c = let named = rw c.in-Some.is at c.in_ok-name_of.ensures in if_true_does _ named.1 (rw named.0 at c.obey.ensures)
