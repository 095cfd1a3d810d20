use Rattle.dk_examples.proofs.PickRuns.{full_queue_refuses}
use Rattle.dk_examples.proofs.picks.full_queue_refuses.Goals as goal

pub returns : goal.returns
returns c = full_queue_refuses
