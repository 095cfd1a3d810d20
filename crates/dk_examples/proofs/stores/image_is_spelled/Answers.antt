use Rattle.dk_examples.proofs.StoreRuns.{image_is_spelled}
use Rattle.dk_examples.proofs.stores.image_is_spelled.Goals as goal

pub returns : goal.returns
returns c = image_is_spelled
