use Rattle.dk_examples.proofs.SessionRuns.{long_login_fails}
use Rattle.dk_examples.proofs.sessions.long_login_fails.Goals as goal

pub returns : goal.returns
returns c = long_login_fails
