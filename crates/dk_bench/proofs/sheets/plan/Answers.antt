use Rattle.dk_txn.proofs.Kit.{then_does, halts}
use Rattle.dk_bench.specs.Rewriting.{plan}
use Rattle.dk_bench.proofs.sheets.plan.Goals as goal

pub returns-in_err-place : goal.returns-in_err-place
unfolding plan
returns-in_err-place g c = halts _ (rw c.in_ok-sheet.ensures at c.in_err-place.ensures.does) c.from_residual-in_err-place.ensures.1

pub returns : goal.returns
unfolding plan
returns g c = then_does _ (rw c.in_ok-sheet.ensures at c.in_ok-place.ensures.does) (rw c.id-id.ensures at c.schedule_each.ensures)
