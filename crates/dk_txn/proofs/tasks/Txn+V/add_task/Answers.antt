use Rattle.std.proofs.Common.{ap, arith}
use Rattle.dk_txn.proofs.TaskCalls.{add_many, add_does, scheduled_at}
use Rattle.dk_txn.proofs.tasks.Txn+V.add_task.Goals as goal

pub returns-then-tasks_made-ge-TASKS_MOST_COUNT-clause-does : goal.returns-then-tasks_made-ge-TASKS_MOST_COUNT-clause-does
returns-then-tasks_made-ge-TASKS_MOST_COUNT-clause-does g c = add_many c.args.kind c.args.arg c.args.delay c.args.period (omega (arith, c.tasks_made.ensures))

pub returns-clause-does : goal.returns-clause-does
returns-clause-does g c =
    add_does c.args.kind c.args.arg c.args.delay c.args.period c.in_ok-schedule_task.field-0 (scheduled_at c.args.kind c.args.arg c.args.delay c.args.period c.at.result)
    (omega (arith, c.tasks_made.ensures)) (ap (scheduled_at c.args.kind c.args.arg c.args.delay c.args.period) c.at.ensures.is) c.in_ok-schedule_task.ensures.ok.0 (rw c.in_ok-shared.ensures at c.in_ok-schedule_task.ensures.ok.1)
