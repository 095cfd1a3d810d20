use Rattle.dk_examples.proofs.SessionRuns.{login_over_no_record_fails}
use Rattle.dk_examples.proofs.sessions.login_over_no_record_fails.Goals as goal

pub returns : goal.returns
returns c = login_over_no_record_fails
