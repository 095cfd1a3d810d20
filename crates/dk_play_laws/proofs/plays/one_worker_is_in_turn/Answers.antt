use Rattle.dk_play_laws.proofs.Worked.{one_in_turn}
use Rattle.dk_play_laws.proofs.plays.one_worker_is_in_turn.Goals as goal

pub returns : goal.returns
returns c = one_in_turn
