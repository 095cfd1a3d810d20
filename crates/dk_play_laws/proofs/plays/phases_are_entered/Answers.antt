use Rattle.dk_play_laws.proofs.Begun.{phases_entered}
use Rattle.dk_play_laws.proofs.plays.phases_are_entered.Goals as goal

pub returns : goal.returns
returns c = phases_entered
