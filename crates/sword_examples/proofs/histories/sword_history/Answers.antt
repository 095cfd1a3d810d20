use Rattle.sword_examples.proofs.SwordHistoryRuns.{sword_history}
use Rattle.sword_examples.proofs.histories.sword_history.Goals as goal

pub returns : goal.returns
returns c = sword_history
