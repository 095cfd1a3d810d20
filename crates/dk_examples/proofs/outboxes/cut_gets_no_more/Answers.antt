use Rattle.dk_examples.proofs.OutboxRuns.{cut_gets_no_more}
use Rattle.dk_examples.proofs.outboxes.cut_gets_no_more.Goals as goal

pub returns : goal.returns
returns c = cut_gets_no_more
