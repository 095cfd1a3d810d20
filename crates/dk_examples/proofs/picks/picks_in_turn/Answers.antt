use Rattle.dk_examples.proofs.PickRuns.{picks_in_turn}
use Rattle.dk_examples.proofs.picks.picks_in_turn.Goals as goal

pub returns : goal.returns
returns c = picks_in_turn
