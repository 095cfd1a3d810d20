use Rattle.dk_examples.proofs.OutboxRuns.{as_many_wait}
use Rattle.dk_examples.proofs.outboxes.as_many_wait.Goals as goal

pub returns : goal.returns
returns c = as_many_wait
