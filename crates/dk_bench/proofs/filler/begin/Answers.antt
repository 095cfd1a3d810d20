use Rattle.dk_txn.proofs.Kit.{then_does, stops}
use Rattle.dk_bench.specs.Filling.{begin}
use Rattle.dk_bench.proofs.filler.begin.Goals as goal

pub returns-in_err-make_all : goal.returns-in_err-make_all
unfolding begin
returns-in_err-make_all g c = stops _ c.in_err-make_all.ensures c.from_residual.ensures.1

pub returns : goal.returns
unfolding begin
returns g c = then_does _ c.in_ok-make_all.ensures c.plan.ensures
