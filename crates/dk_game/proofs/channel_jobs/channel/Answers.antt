use Rattle.dk_txn.proofs.Kit.{then_does, halts, give_does, if_true_does, if_false_does}
use Rattle.dk_game.proofs.channel_jobs.channel.Goals as goal

pub returns-in_err-is_connected-clause-does : goal.returns-in_err-is_connected-clause-does
returns-in_err-is_connected-clause-does g c = halts _ c.in_err-is_connected.ensures.does c.from_residual.ensures.1

pub returns-then-branch-clause-does : goal.returns-then-branch-clause-does
returns-then-branch-clause-does g c = then_does _ c.in_ok-is_connected.ensures.does (if_true_does _ c.if-branch.true c.on_channel.ensures.does)

pub returns-else-branch-clause-does : goal.returns-else-branch-clause-does
returns-else-branch-clause-does g c = then_does _ c.in_ok-is_connected.ensures.does (if_false_does _ c.if-branch.false give_does)
