use Rattle.dk_txn.proofs.Kit.{give_does}
use Rattle.sword_world.proofs.game.SwordWorldGame.run.Goals as goal

pub returns-in-Channel : goal.returns-in-Channel
returns-in-Channel g c = rw c.in-Channel.is give_does

pub returns-in-Task : goal.returns-in-Task
returns-in-Task g c = rw c.in-Task.is give_does
