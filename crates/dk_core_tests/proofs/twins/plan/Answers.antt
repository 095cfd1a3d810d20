use Rattle.dk_txn.proofs.Kit.{then_does, halts, give_does}
use Rattle.dk_core_tests.proofs.twins.plan.Goals as goal

pub returns-in_err-schedule : goal.returns-in_err-schedule
returns-in_err-schedule g c = halts _ (rw c.empty.ensures at c.in_err-schedule.ensures.does) c.from_residual.ensures.1

pub returns : goal.returns
returns g c = then_does _ (rw c.empty.ensures at c.in_ok-schedule.ensures.does) give_does
