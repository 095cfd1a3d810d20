use Rattle.dk_examples.proofs.TimerRuns.{timer_skips}
use Rattle.dk_examples.proofs.timers.timer_skips.Goals as goal

pub returns : goal.returns
returns c = timer_skips
