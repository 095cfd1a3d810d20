use Rattle.dk_txn.proofs.Kit.{then_does, halts}
use Rattle.sword_world.specs.Rules.{initialize}
use Rattle.sword_world.proofs.game.initialize.Goals as goal

pub returns-in_err-sword : goal.returns-in_err-sword
unfolding initialize
returns-in_err-sword g c = halts _ (rw c.in_ok-thing.ensures at c.in_err-sword.ensures.does) c.from_residual-in_err-sword.ensures.1

pub returns : goal.returns
unfolding initialize
returns g c = then_does _ (rw c.in_ok-thing.ensures at c.in_ok-sword.ensures.does) (rw c.id.ensures at c.furnish.ensures)
