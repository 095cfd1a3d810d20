use Rattle.dk_txn.proofs.Kit.{then_does, halts, give_does}
use Rattle.dk_bench.proofs.sheets.schedule_one.Goals as goal

pub returns-in_err-schedule : goal.returns-in_err-schedule
returns-in_err-schedule g c = halts _ (rw c.in_ok-arg.ensures at c.in_err-schedule.ensures.does) c.from_residual-in_err-schedule.ensures.1

pub returns : goal.returns
returns g c = then_does _ (rw c.in_ok-arg.ensures at c.in_ok-schedule.ensures.does) give_does
