use Rattle.dk_progress.proofs.Ran.{run_less}
use Rattle.dk_progress.proofs.runs_leave_less.Goals as goal

pub returns : goal.returns
returns c = run_less
