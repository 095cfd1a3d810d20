use Rattle.dk_examples.proofs.TimerRuns.{once_fails}
use Rattle.dk_examples.proofs.timers.once_fails.Goals as goal

pub returns : goal.returns
returns c = once_fails
