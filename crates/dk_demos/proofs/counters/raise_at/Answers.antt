use Rattle.dk_txn.proofs.Kit.{then_does, stops, give_does}
use Rattle.dk_demos.specs.CountersRules.{raise_at}
use Rattle.dk_demos.proofs.counters.raise_at.Goals as goal

pub returns-in_err-raise_under : goal.returns-in_err-raise_under
unfolding raise_at
returns-in_err-raise_under g c = stops _ (rw c.in_ok-name.ensures at c.in_err-raise_under.ensures) c.from_residual-in_err-raise_under.ensures.1

pub returns : goal.returns
unfolding raise_at
returns g c = then_does _ (rw c.in_ok-name.ensures at c.in_ok-raise_under.ensures) give_does
