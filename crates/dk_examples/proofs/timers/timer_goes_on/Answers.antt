use Rattle.dk_examples.proofs.TimerRuns.{timer_goes_on}
use Rattle.dk_examples.proofs.timers.timer_goes_on.Goals as goal

pub returns : goal.returns
returns c = timer_goes_on
