use Rattle.dk_examples.proofs.SessionRuns.{second_login_displaces}
use Rattle.dk_examples.proofs.sessions.second_login_displaces.Goals as goal

pub returns : goal.returns
returns c = second_login_displaces
