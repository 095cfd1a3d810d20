use Rattle.dk_examples.proofs.SessionRuns.{disconnect_ends}
use Rattle.dk_examples.proofs.sessions.disconnect_ends.Goals as goal

pub returns : goal.returns
returns c = disconnect_ends
