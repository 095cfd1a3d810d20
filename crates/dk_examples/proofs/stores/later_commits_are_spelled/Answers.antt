use Rattle.dk_examples.proofs.StoreRuns.{later_commits_are_spelled}
use Rattle.dk_examples.proofs.stores.later_commits_are_spelled.Goals as goal

pub returns : goal.returns
returns c = later_commits_are_spelled
