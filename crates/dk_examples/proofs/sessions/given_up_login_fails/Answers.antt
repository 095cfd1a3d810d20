use Rattle.dk_examples.proofs.SessionRuns.{given_up_login_fails}
use Rattle.dk_examples.proofs.sessions.given_up_login_fails.Goals as goal

pub returns : goal.returns
returns c = given_up_login_fails
