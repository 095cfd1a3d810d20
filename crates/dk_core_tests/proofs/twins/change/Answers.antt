use Rattle.dk_txn.proofs.Kit.{then_does, stops}
use Rattle.dk_core_tests.specs.Twins.{change}
use Rattle.dk_core_tests.proofs.twins.change.Goals as goal

pub returns-in_err-mark : goal.returns-in_err-mark
unfolding change
returns-in_err-mark g c = stops _ (rw c.in_ok-first.ensures.0 at c.in_err-mark.ensures) c.from_residual-in_err-mark.ensures.1

pub returns-in_err-mark-2 : goal.returns-in_err-mark-2
unfolding change
returns-in_err-mark-2 g c =
    then_does _ (rw c.in_ok-first.ensures.0 at c.in_ok-mark.ensures) (stops _ (rw c.in_ok-second.ensures.0 at c.in_err-mark-2.ensures) c.from_residual-in_err-mark-2.ensures.1)

pub returns : goal.returns
unfolding change
returns g c =
    then_does _ (rw c.in_ok-first.ensures.0 at c.in_ok-mark.ensures) (then_does _ (rw c.in_ok-second.ensures.0 at c.in_ok-mark-2.ensures)
    (rw (c.in_ok-first.ensures.0, c.in_ok-between.ensures.0) at c.bind_too.ensures))
