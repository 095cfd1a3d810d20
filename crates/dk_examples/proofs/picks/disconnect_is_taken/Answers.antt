use Rattle.dk_examples.proofs.PickRuns.{disconnect_is_taken}
use Rattle.dk_examples.proofs.picks.disconnect_is_taken.Goals as goal

pub returns : goal.returns
returns c = disconnect_is_taken
