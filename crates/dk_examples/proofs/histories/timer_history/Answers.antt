use Rattle.dk_examples.proofs.HistoryRuns.{timer_history}
use Rattle.dk_examples.proofs.histories.timer_history.Goals as goal

pub returns : goal.returns
returns c = timer_history
