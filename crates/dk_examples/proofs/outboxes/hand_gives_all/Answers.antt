use Rattle.dk_examples.proofs.OutboxRuns.{hand_gives_all}
use Rattle.dk_examples.proofs.outboxes.hand_gives_all.Goals as goal

pub returns : goal.returns
returns c = hand_gives_all
