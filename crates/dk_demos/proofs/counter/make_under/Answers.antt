use Rattle.dk_txn.proofs.Kit.{then_does, then_last, halts, halts_last}
use Rattle.dk_demos.specs.Raising.{make_under}
use Rattle.dk_demos.proofs.counter.make_under.Goals as goal

pub returns-in_err-counter : goal.returns-in_err-counter
unfolding make_under
returns-in_err-counter g c = halts _ c.in_err-counter.ensures.does c.from_residual.ensures.1

pub returns-in_err-bind : goal.returns-in_err-bind
unfolding make_under
returns-in_err-bind g c = then_does _ c.in_ok-counter.ensures.does (halts_last (rw c.id.ensures at c.in_err-bind.ensures.does) c.from_residual-in_err-bind.ensures.1)

pub returns : goal.returns
unfolding make_under
returns g c = then_does _ c.in_ok-counter.ensures.does (then_last (rw c.id.ensures at c.in_ok-bind.ensures.does))
