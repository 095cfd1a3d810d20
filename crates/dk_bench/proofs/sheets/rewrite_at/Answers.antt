use Rattle.dk_txn.proofs.Kit.{then_does, halts, give_does}
use Rattle.dk_bench.specs.Rewriting.{rewrite_at}
use Rattle.dk_bench.proofs.sheets.rewrite_at.Goals as goal

pub returns-in_err-sheet : goal.returns-in_err-sheet
unfolding rewrite_at
returns-in_err-sheet g c = halts _ (rw c.of-place.ensures at c.in_err-sheet.ensures.does) c.from_residual.ensures.1

pub returns-in_err-save : goal.returns-in_err-save
unfolding rewrite_at
returns-in_err-save g c =
    then_does _ (rw c.of-place.ensures at c.in_ok-sheet.ensures.does)
    (halts _ (rw (c.of-place.ensures, c.in_ok-more.ensures) at c.in_err-save.ensures.does) c.from_residual-in_err-save.ensures.1)

pub returns : goal.returns
unfolding rewrite_at
returns g c =
    then_does _ (rw c.of-place.ensures at c.in_ok-sheet.ensures.does)
    (then_does _ (rw (c.of-place.ensures, c.in_ok-more.ensures) at c.in_ok-save.ensures.does) give_does)
