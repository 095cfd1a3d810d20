use Rattle.dk_txn.proofs.Kit.{then_does, stops}
use Rattle.dk_core_tests.specs.Twins.{begin}
use Rattle.dk_core_tests.proofs.twins.begin.Goals as goal

pub returns-in_err-make : goal.returns-in_err-make
unfolding begin
returns-in_err-make g c = stops _ (rw c.in_ok-first.ensures.0 at c.in_err-make.ensures) c.from_residual-in_err-make.ensures.1

pub returns-in_err-make-2 : goal.returns-in_err-make-2
unfolding begin
returns-in_err-make-2 g c =
    then_does _ (rw c.in_ok-first.ensures.0 at c.in_ok-make.ensures) (stops _ (rw c.in_ok-second.ensures.0 at c.in_err-make-2.ensures) c.from_residual-in_err-make-2.ensures.1)

pub returns-in_err-plan : goal.returns-in_err-plan
unfolding begin
returns-in_err-plan g c =
    then_does _ (rw c.in_ok-first.ensures.0 at c.in_ok-make.ensures) (then_does _ (rw c.in_ok-second.ensures.0 at c.in_ok-make-2.ensures)
    (stops _ c.in_err-plan.ensures c.from_residual-in_err-plan.ensures.1))

pub returns : goal.returns
unfolding begin
returns g c =
    then_does _ (rw c.in_ok-first.ensures.0 at c.in_ok-make.ensures) (then_does _ (rw c.in_ok-second.ensures.0 at c.in_ok-make-2.ensures) (then_does _ c.in_ok-plan.ensures c.plan-2.ensures))
