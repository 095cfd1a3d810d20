use Rattle.dk_txn.proofs.Kit.{then_does, halts, give_does}
use Rattle.dk_bench.proofs.filler.plan.Goals as goal

pub returns-in_err-schedule_periodic : goal.returns-in_err-schedule_periodic
returns-in_err-schedule_periodic g c = halts _ (rw c.in_ok-arg.ensures at c.in_err-schedule_periodic.ensures.does) c.from_residual-in_err-schedule_periodic.ensures.1

pub returns : goal.returns
returns g c = then_does _ (rw c.in_ok-arg.ensures at c.in_ok-schedule_periodic.ensures.does) give_does
