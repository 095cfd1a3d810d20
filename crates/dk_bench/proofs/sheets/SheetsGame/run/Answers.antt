use Rattle.dk_txn.proofs.Kit.{give_does}
use Rattle.dk_bench.proofs.sheets.SheetsGame.run.Goals as goal

pub returns-in-Login : goal.returns-in-Login
returns-in-Login g c = rw c.in-Login.is give_does

pub returns-in-Message : goal.returns-in-Message
returns-in-Message g c = rw c.in-Message.is give_does

pub returns-in-Channel : goal.returns-in-Channel
returns-in-Channel g c = rw c.in-Channel.is give_does

pub returns-in-Disconnect : goal.returns-in-Disconnect
returns-in-Disconnect g c = rw c.in-Disconnect.is give_does
