use Rattle.dk_txn.proofs.Kit.{then_does, stops}
use Rattle.dk_demos.proofs.counters.begin.Goals as goal

pub returns-in_err-make_all : goal.returns-in_err-make_all
returns-in_err-make_all g c = stops _ c.in_err-make_all.ensures c.from_residual.ensures.1

pub returns : goal.returns
returns g c = then_does _ c.in_ok-make_all.ensures c.plan_all.ensures
