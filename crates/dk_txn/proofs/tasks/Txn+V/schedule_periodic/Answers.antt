use Rattle.std.proofs.Common.{sym, ◌∙◌}
use Rattle.dk_txn.proofs.TaskCalls.{periodic_long, periodic_bad, periodic_does}
use Rattle.dk_txn.proofs.tasks.Txn+V.schedule_periodic.Goals as goal

pub returns-then-is_too_long-clause-does : goal.returns-then-is_too_long-clause-does
returns-then-is_too_long-clause-does g c = periodic_long _ _ _ _ c.too_long.ensures.told (sym c.is_too_long.ensures ∙ c.if-is_too_long.true)

pub returns-then-is_bad_period-clause-does : goal.returns-then-is_bad_period-clause-does
returns-then-is_bad_period-clause-does g c = periodic_bad _ _ _ _ (sym c.is_too_long.ensures ∙ c.if-is_too_long.false) (sym c.is_bad_period.ensures.told ∙ c.if-is_bad_period.true)

pub returns-clause-does : goal.returns-clause-does
returns-clause-does g c = periodic_does _ _ _ _ (sym c.is_too_long.ensures ∙ c.if-is_too_long.false) (sym c.is_bad_period.ensures.told ∙ c.if-is_bad_period.false) c.add_task.ensures.does
