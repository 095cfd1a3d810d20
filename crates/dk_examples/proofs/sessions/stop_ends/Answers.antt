use Rattle.dk_examples.proofs.SessionRuns.{stop_ends}
use Rattle.dk_examples.proofs.sessions.stop_ends.Goals as goal

pub returns : goal.returns
returns c = stop_ends
