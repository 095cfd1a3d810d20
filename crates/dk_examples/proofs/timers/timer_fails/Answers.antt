use Rattle.dk_examples.proofs.TimerRuns.{timer_fails}
use Rattle.dk_examples.proofs.timers.timer_fails.Goals as goal

pub returns : goal.returns
returns c = timer_fails
