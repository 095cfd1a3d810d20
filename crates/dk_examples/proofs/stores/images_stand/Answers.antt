use Rattle.dk_examples.proofs.StoreRuns.{images_stand}
use Rattle.dk_examples.proofs.stores.images_stand.Goals as goal

pub returns : goal.returns
returns c = images_stand
