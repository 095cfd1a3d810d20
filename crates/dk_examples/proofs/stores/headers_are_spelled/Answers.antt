use Rattle.dk_examples.proofs.StoreRuns.{headers_are_spelled}
use Rattle.dk_examples.proofs.stores.headers_are_spelled.Goals as goal

pub returns : goal.returns
returns c = headers_are_spelled
