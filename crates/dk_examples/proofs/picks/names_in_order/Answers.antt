use Rattle.dk_examples.proofs.PickRuns.{names_in_order}
use Rattle.dk_examples.proofs.picks.names_in_order.Goals as goal

pub returns : goal.returns
returns c = names_in_order
