use Rattle.dk_examples.proofs.StoreRuns.{first_commit_is_spelled}
use Rattle.dk_examples.proofs.stores.first_commit_is_spelled.Goals as goal

pub returns : goal.returns
returns c = first_commit_is_spelled
