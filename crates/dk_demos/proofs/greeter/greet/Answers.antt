use Rattle.dk_txn.proofs.Kit.{then_does, halts, does_as}
use Rattle.dk_demos.proofs.Greeting.{known_as}
use Rattle.dk_demos.proofs.greeter.greet.Goals as goal

pub returns-in_err-binding : goal.returns-in_err-binding
returns-in_err-binding g c = does_as _ (known_as c.args.conn c.args.name.now) (halts _ (rw c.requires at c.in_err-binding.ensures.does) c.from_residual.ensures.1)

pub returns-in-Some : goal.returns-in-Some
returns-in-Some g c = does_as _ (known_as c.args.conn c.args.name.now) (then_does _ (rw (c.requires, c.in-Some.is) at c.in_ok-binding.ensures.does) c.welcome_back.ensures)

pub returns-in-None : goal.returns-in-None
returns-in-None g c = does_as _ (known_as c.args.conn c.args.name.now) (then_does _ (rw (c.requires, c.in-None.is) at c.in_ok-binding.ensures.does) c.welcome.ensures)
