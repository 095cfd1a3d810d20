use Rattle.std.proofs.Common.{sym, ◌∙◌}
use Rattle.dk_txn.proofs.TaskCalls.{schedule_long, schedule_late, schedule_does}
use Rattle.dk_txn.proofs.tasks.Txn+V.schedule.Goals as goal

pub returns-then-is_too_long-clause-does : goal.returns-then-is_too_long-clause-does
returns-then-is_too_long-clause-does g c = schedule_long _ _ _ c.too_long.ensures.told (sym c.is_too_long.ensures ∙ c.if-is_too_long.true)

pub returns-then-delay-gt-DELAY_MOST_MS-clause-does : goal.returns-then-delay-gt-DELAY_MOST_MS-clause-does
returns-then-delay-gt-DELAY_MOST_MS-clause-does g c = schedule_late _ _ _ (sym c.is_too_long.ensures ∙ c.if-is_too_long.false) c.if-delay-gt-DELAY_MOST_MS.true

pub returns-clause-does : goal.returns-clause-does
returns-clause-does g c = schedule_does _ _ _ (sym c.is_too_long.ensures ∙ c.if-is_too_long.false) c.if-delay-gt-DELAY_MOST_MS.false c.add_task.ensures.does
