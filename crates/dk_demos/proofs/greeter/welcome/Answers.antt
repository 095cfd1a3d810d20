use Rattle.dk_txn.proofs.Kit.{then_does, halts}
use Rattle.dk_demos.specs.GreeterRules.{welcome}
use Rattle.dk_demos.proofs.greeter.welcome.Goals as goal

pub returns-in_err-guest : goal.returns-in_err-guest
unfolding welcome
returns-in_err-guest g c = halts _ c.in_err-guest.ensures.does c.from_residual.ensures.1

pub returns-in_err-bind : goal.returns-in_err-bind
unfolding welcome
returns-in_err-bind g c = then_does _ c.in_ok-guest.ensures.does (halts _ (rw (c.requires, c.id.ensures) at c.in_err-bind.ensures.does) c.from_residual-in_err-bind.ensures.1)

pub returns : goal.returns
unfolding welcome
returns g c = then_does _ c.in_ok-guest.ensures.does (then_does _ (rw (c.requires, c.id.ensures) at c.in_ok-bind.ensures.does) c.say.ensures)
