use Rattle.dk_txn.proofs.Kit.{then_does, halts, give_does, if_true_does, if_false_does, does_for}
use Rattle.dk_game.proofs.Owning.{own_halts, own_asked, none_changed}
use Rattle.dk_game.proofs.job_parts.occurrence.Goals as goal

pub returns-in_err-own_task-clause-does : goal.returns-in_err-own_task-clause-does
returns-in_err-own_task-clause-does g c = halts _ c.in_err-own_task.ensures.does c.from_residual.ensures.1

pub returns-in_err-own_task-clause-asked : goal.returns-in_err-own_task-clause-asked
returns-in_err-own_task-clause-asked g c = λ start. own_halts c.args.key c.args.due c.args.period _ c.in_err-own_task.ensures.does c.from_residual.ensures.1

pub returns-then-branch-clause-does : goal.returns-then-branch-clause-does
returns-then-branch-clause-does g c = then_does _ c.in_ok-own_task.ensures.does (if_true_does _ c.if-branch.true (does_for c.game_part.ensures.does))

pub returns-then-branch-clause-asked : goal.returns-then-branch-clause-asked
returns-then-branch-clause-asked g c = λ start end told d agrees. own_asked c.args.key c.game_part.ensures.does.keeps (c.in_ok-own_task.ensures.asked (none_changed _ c.args.key start))

pub returns-else-branch-clause-does : goal.returns-else-branch-clause-does
returns-else-branch-clause-does g c = then_does _ c.in_ok-own_task.ensures.does (if_false_does _ c.if-branch.false give_does)

pub returns-else-branch-clause-asked : goal.returns-else-branch-clause-asked
returns-else-branch-clause-asked g c = λ start end told d agrees. c.in_ok-own_task.ensures.asked (none_changed _ c.args.key start)
