use Rattle.dk_examples.proofs.OutboxRuns.{one_more_cuts}
use Rattle.dk_examples.proofs.outboxes.one_more_cuts.Goals as goal

pub returns : goal.returns
returns c = one_more_cuts
