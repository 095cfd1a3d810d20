use Rattle.dk_examples.proofs.TimerRuns.{timer_ends}
use Rattle.dk_examples.proofs.timers.timer_ends.Goals as goal

pub returns : goal.returns
returns c = timer_ends
