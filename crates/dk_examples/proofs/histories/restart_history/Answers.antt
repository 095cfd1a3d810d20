use Rattle.dk_examples.proofs.HistoryRuns.{restart_history}
use Rattle.dk_examples.proofs.histories.restart_history.Goals as goal

pub returns : goal.returns
returns c = restart_history
