use Rattle.dk_txn.proofs.Kit.{then_does, halts}
use Rattle.dk_demos.specs.Commands.{obey}
use Rattle.dk_demos.proofs.commands.obey.Goals as goal

pub returns-in_err-channel : goal.returns-in_err-channel
unfolding obey
returns-in_err-channel g c = halts _ c.in_err-channel.ensures.does c.from_residual.ensures.1

pub returns : goal.returns
unfolding obey
returns g c = then_does _ c.in_ok-channel.ensures.does c.obey_at.ensures
