use Rattle.dk_txn.proofs.Kit.{then_does, give_does, halts, does_as}
use Rattle.sword_world.proofs.Parts.{known_as}
use Rattle.sword_world.proofs.sessions.known_player.Goals as goal

pub returns-in_err-id : goal.returns-in_err-id
returns-in_err-id g c = does_as _ (known_as c.args.name.now) (halts _ (rw c.requires at c.in_err-id.ensures.does) c.from_residual.ensures.1)

pub returns-in-Some : goal.returns-in-Some
returns-in-Some g c = does_as _ (known_as c.args.name.now) (then_does _ (rw (c.requires, c.in-Some.is) at c.in_ok-id.ensures.does) give_does)

pub returns-in-None : goal.returns-in-None
returns-in-None g c = does_as _ (known_as c.args.name.now) (then_does _ (rw (c.requires, c.in-None.is) at c.in_ok-id.ensures.does) c.new_player.ensures)
