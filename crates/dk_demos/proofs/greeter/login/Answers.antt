use Rattle.dk_txn.proofs.Kit.{if_true_does, if_false_does}
use Rattle.dk_demos.specs.GreeterRules.{login}
use Rattle.dk_demos.proofs.Greeting.{turned_away}
use Rattle.dk_demos.proofs.greeter.login.Goals as goal

pub returns-in-None : goal.returns-in-None
unfolding login
returns-in-None g c = if_true_does _ (rw c.in-None.is at c.in_ok-guest_key.ensures) turned_away

pub returns-in-Some : goal.returns-in-Some
unfolding login
returns-in-Some g c = let key = rw c.in-Some.is at c.in_ok-guest_key.ensures in if_false_does _ key.1 c.greet.ensures
