use Rattle.dk_examples.proofs.HistoryRuns.{second_login_history}
use Rattle.dk_examples.proofs.histories.second_login_history.Goals as goal

pub returns : goal.returns
returns c = second_login_history
