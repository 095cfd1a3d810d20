use Rattle.dk_model.specs.Platforms as platform
use Rattle.dk_txn.proofs.Kit.{then_does, stops, give_does}
use Rattle.dk_channels.proofs.channel.members.Goals as goal

pub returns-in_err-record-clause-does : goal.returns-in_err-record-clause-does
unfolding platform.members
returns-in_err-record-clause-does g c = stops _ c.in_err-record.ensures.does c.from_residual.ensures.1

pub returns-clause-does : goal.returns-clause-does
unfolding platform.members
returns-clause-does g c = then_does _ c.in_ok-record.ensures.does give_does
