use Rattle.dk_txn.proofs.Kit.{then_does, halts}
use Rattle.dk_demos.specs.GreeterRules.{welcome_back}
use Rattle.dk_demos.proofs.greeter.welcome_back.Goals as goal

pub returns-in_err-guest : goal.returns-in_err-guest
unfolding welcome_back
returns-in_err-guest g c = halts _ (rw c.of-place.ensures at c.in_err-guest.ensures.does) c.from_residual.ensures.1

pub returns-in_err-save : goal.returns-in_err-save
unfolding welcome_back
returns-in_err-save g c =
    then_does _ (rw c.of-place.ensures at c.in_ok-guest.ensures.does) (halts _ (rw (c.of-place.ensures, c.once_more.ensures) at c.in_err-save.ensures.does) c.from_residual-in_err-save.ensures.1)

pub returns : goal.returns
unfolding welcome_back
returns g c =
    then_does _ (rw c.of-place.ensures at c.in_ok-guest.ensures.does) (then_does _ (rw (c.of-place.ensures, c.once_more.ensures) at c.in_ok-save.ensures.does) c.say.ensures)
