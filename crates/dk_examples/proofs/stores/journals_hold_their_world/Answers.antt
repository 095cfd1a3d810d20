use Rattle.dk_examples.proofs.StoreRuns.{journals_hold_their_world}
use Rattle.dk_examples.proofs.stores.journals_hold_their_world.Goals as goal

pub returns : goal.returns
returns c = journals_hold_their_world
