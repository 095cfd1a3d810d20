use Rattle.dk_examples.proofs.PickRuns.{closed_takes_nothing}
use Rattle.dk_examples.proofs.picks.closed_takes_nothing.Goals as goal

pub returns : goal.returns
returns c = closed_takes_nothing
