use Rattle.dk_examples.proofs.StoreRuns.{stores_hold_their_world}
use Rattle.dk_examples.proofs.stores.stores_hold_their_world.Goals as goal

pub returns : goal.returns
returns c = stores_hold_their_world
