use Rattle.dk_txn.proofs.Kit.{give_does}
use Rattle.dk_demos.proofs.channels.ChannelsGame.run.Goals as goal

pub returns-in-Disconnect : goal.returns-in-Disconnect
returns-in-Disconnect g c = rw c.in-Disconnect.is give_does

pub returns-in-Task : goal.returns-in-Task
returns-in-Task g c = rw c.in-Task.is give_does
