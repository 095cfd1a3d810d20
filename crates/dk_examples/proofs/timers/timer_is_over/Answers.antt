use Rattle.dk_examples.proofs.TimerRuns.{timer_is_over}
use Rattle.dk_examples.proofs.timers.timer_is_over.Goals as goal

pub returns : goal.returns
returns c = timer_is_over
