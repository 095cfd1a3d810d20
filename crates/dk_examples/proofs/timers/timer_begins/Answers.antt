use Rattle.dk_examples.proofs.TimerRuns.{timer_begins}
use Rattle.dk_examples.proofs.timers.timer_begins.Goals as goal

pub returns : goal.returns
returns c = timer_begins
