use Rattle.dk_txn.proofs.Kit.{if_true_does, if_false_does}
use Rattle.sword_world.specs.Rules.{player_there}
use Rattle.sword_world.proofs.Parts.{turned_away}
use Rattle.sword_world.proofs.scene.player_there.Goals as goal

pub returns-in-None : goal.returns-in-None
unfolding player_there
returns-in-None g c = if_true_does _ (rw c.in-None.is at c.in_ok-player_key.ensures) turned_away

pub returns-in-Some : goal.returns-in-Some
unfolding player_there
returns-in-Some g c = let key = rw c.in-Some.is at c.in_ok-player_key.ensures in if_false_does _ key.1 (rw key.0 at c.player_under.ensures)
