use Rattle.dk_examples.proofs.StoreRuns.{bare_commit_is_spelled}
use Rattle.dk_examples.proofs.stores.bare_commit_is_spelled.Goals as goal

pub returns : goal.returns
returns c = bare_commit_is_spelled
