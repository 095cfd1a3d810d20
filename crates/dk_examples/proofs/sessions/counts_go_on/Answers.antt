use Rattle.dk_examples.proofs.SessionRuns.{counts_go_on}
use Rattle.dk_examples.proofs.sessions.counts_go_on.Goals as goal

pub returns : goal.returns
returns c = counts_go_on
