use Rattle.dk_txn.proofs.Kit.{then_does, stops, halts, give_does}
use Rattle.dk_demos.specs.TimerRules.{begin}
use Rattle.dk_demos.proofs.timer.begin.Goals as goal

pub returns-in_err-make_under : goal.returns-in_err-make_under
unfolding begin
returns-in_err-make_under g c = stops _ (rw c.in_ok-name.ensures at c.in_err-make_under.ensures) c.from_residual-in_err-make_under.ensures.1

pub returns-in_err-schedule_periodic : goal.returns-in_err-schedule_periodic
unfolding begin
returns-in_err-schedule_periodic g c =
    then_does _ (rw c.in_ok-name.ensures at c.in_ok-make_under.ensures)
    (halts _ (rw c.no_arg.ensures at c.in_err-schedule_periodic.ensures.does) c.from_residual-in_err-schedule_periodic.ensures.1)

pub returns : goal.returns
unfolding begin
returns g c =
    then_does _ (rw c.in_ok-name.ensures at c.in_ok-make_under.ensures)
    (then_does _ (rw c.no_arg.ensures at c.in_ok-schedule_periodic.ensures.does) give_does)
