use Rattle.dk_play_laws.proofs.Begun.{nothing_entered}
use Rattle.dk_play_laws.proofs.plays.nothing_is_entered.Goals as goal

pub returns : goal.returns
returns c = nothing_entered
