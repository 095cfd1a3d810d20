use Rattle.dk_txn.proofs.Kit.{then_does, stops}
use Rattle.dk_run_tests.proofs.look_in.look_in.Goals as goal

pub returns-in_err-join : goal.returns-in_err-join
returns-in_err-join g c = stops _ c.in_err-join.ensures.does c.from_residual.ensures.1

pub returns-in_err-send : goal.returns-in_err-send
returns-in_err-send g c = then_does _ c.in_ok-join.ensures.does (stops _ c.in_err-send.ensures.does c.from_residual-in_err-send.ensures.1)

pub returns : goal.returns
returns g c = then_does _ c.in_ok-join.ensures.does (then_does _ c.in_ok-send.ensures.does c.leave.ensures.does)
