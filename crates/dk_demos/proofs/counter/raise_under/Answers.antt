use Rattle.dk_txn.proofs.Kit.{then_does, halts, give_does}
use Rattle.dk_demos.specs.Raising.{raise_under}
use Rattle.dk_demos.proofs.counter.raise_under.Goals as goal

pub returns-in_err-bound : goal.returns-in_err-bound
unfolding raise_under
returns-in_err-bound g c = halts _ c.in_err-bound.ensures.does c.from_residual.ensures.1

pub returns-in_err-counter : goal.returns-in_err-counter
unfolding raise_under
returns-in_err-counter g c = then_does _ c.in_ok-bound.ensures.does (halts _ (rw c.of-place.ensures at c.in_err-counter.ensures.does) c.from_residual-in_err-counter.ensures.1)

pub returns-in_err-save : goal.returns-in_err-save
unfolding raise_under
returns-in_err-save g c =
    then_does _ c.in_ok-bound.ensures.does (then_does _ (rw c.of-place.ensures at c.in_ok-counter.ensures.does)
    (halts _ (rw (c.of-place.ensures, c.raised-more.ensures) at c.in_err-save.ensures.does) c.from_residual-in_err-save.ensures.1))

pub returns : goal.returns
unfolding raise_under
returns g c =
    then_does _ c.in_ok-bound.ensures.does (then_does _ (rw c.of-place.ensures at c.in_ok-counter.ensures.does)
    (then_does _ (rw (c.of-place.ensures, c.raised-more.ensures) at c.in_ok-save.ensures.does) (rw c.raised-more.ensures give_does)))
