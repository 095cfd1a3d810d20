use Rattle.dk_examples.proofs.PickRuns.{queue_takes}
use Rattle.dk_examples.proofs.picks.queue_takes.Goals as goal

pub returns : goal.returns
returns c = queue_takes
