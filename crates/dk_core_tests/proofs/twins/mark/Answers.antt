use Rattle.dk_txn.proofs.Kit.{then_does, then_last, halts, halts_last}
use Rattle.dk_core_tests.proofs.twins.mark.Goals as goal

pub returns-in_err-id : goal.returns-in_err-id
returns-in_err-id g c = halts _ c.in_err-id.ensures.does c.from_residual-in_err-id.ensures.1

pub returns-in_err-save : goal.returns-in_err-save
returns-in_err-save g c = then_does _ c.in_ok-id.ensures.does (halts_last (rw c.in_ok-bytes.ensures at c.in_err-save.ensures.does) c.from_residual-in_err-save.ensures.1)

pub returns : goal.returns
returns g c = then_does _ c.in_ok-id.ensures.does (then_last (rw c.in_ok-bytes.ensures at c.in_ok-save.ensures.does))
