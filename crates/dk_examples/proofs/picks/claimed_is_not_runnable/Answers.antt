use Rattle.dk_examples.proofs.PickRuns.{claimed_is_not_runnable}
use Rattle.dk_examples.proofs.picks.claimed_is_not_runnable.Goals as goal

pub returns : goal.returns
returns c = claimed_is_not_runnable
