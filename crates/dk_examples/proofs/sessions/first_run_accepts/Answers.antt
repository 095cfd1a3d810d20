use Rattle.dk_examples.proofs.SessionRuns.{first_run_accepts}
use Rattle.dk_examples.proofs.sessions.first_run_accepts.Goals as goal

pub returns : goal.returns
returns c = first_run_accepts
