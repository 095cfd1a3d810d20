use Rattle.dk_examples.proofs.StoreRuns.{the_greater_epoch_stands}
use Rattle.dk_examples.proofs.stores.the_greater_epoch_stands.Goals as goal

pub returns : goal.returns
returns c = the_greater_epoch_stands
