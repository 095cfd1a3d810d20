use Rattle.dk_examples.proofs.SessionRuns.{login_is_accepted}
use Rattle.dk_examples.proofs.sessions.login_is_accepted.Goals as goal

pub returns : goal.returns
returns c = login_is_accepted
