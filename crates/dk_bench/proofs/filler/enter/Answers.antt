use Rattle.dk_txn.proofs.Kit.{then_does, stops}
use Rattle.dk_bench.proofs.filler.enter.Goals as goal

pub returns-in_err-fill : goal.returns-in_err-fill
returns-in_err-fill g c = stops _ c.in_err-fill.ensures c.from_residual.ensures.1

pub returns : goal.returns
returns g c = then_does _ c.in_ok-fill.ensures c.put_off.ensures
