use Rattle.dk_txn.proofs.Kit.{give_does}
use Rattle.dk_demos.proofs.greeter.GreeterGame.run.Goals as goal

pub returns-in-Initialize : goal.returns-in-Initialize
returns-in-Initialize g c = rw c.in-Initialize.is give_does

pub returns-in-Message : goal.returns-in-Message
returns-in-Message g c = rw c.in-Message.is give_does

pub returns-in-Channel : goal.returns-in-Channel
returns-in-Channel g c = rw c.in-Channel.is give_does

pub returns-in-Disconnect : goal.returns-in-Disconnect
returns-in-Disconnect g c = rw c.in-Disconnect.is give_does

pub returns-in-Task : goal.returns-in-Task
returns-in-Task g c = rw c.in-Task.is give_does
