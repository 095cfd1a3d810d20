use Rattle.dk_examples.proofs.PickRuns.{ties_go_by_key}
use Rattle.dk_examples.proofs.picks.ties_go_by_key.Goals as goal

pub returns : goal.returns
returns c = ties_go_by_key
