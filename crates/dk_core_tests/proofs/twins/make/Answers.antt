use Rattle.dk_txn.proofs.Kit.{then_does, then_last, halts, halts_last}
use Rattle.dk_core_tests.proofs.twins.make.Goals as goal

pub returns-in_err-id : goal.returns-in_err-id
returns-in_err-id g c = halts _ (rw c.empty.ensures at c.in_err-id.ensures.does) c.from_residual.ensures.1

pub returns-in_err-bind : goal.returns-in_err-bind
returns-in_err-bind g c = then_does _ (rw c.empty.ensures at c.in_ok-id.ensures.does) (halts_last c.in_err-bind.ensures.does c.from_residual-in_err-bind.ensures.1)

pub returns : goal.returns
returns g c = then_does _ (rw c.empty.ensures at c.in_ok-id.ensures.does) (then_last c.in_ok-bind.ensures.does)
