use Rattle.dk_play_laws.proofs.Budgets.{spent_committed}
use Rattle.dk_play_laws.proofs.plays.spent_budgets_are_committed.Goals as goal

pub returns : goal.returns
returns c = spent_committed
