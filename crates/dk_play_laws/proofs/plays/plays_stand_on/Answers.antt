use Rattle.dk_play_laws.proofs.Phasing.{stand_on}
use Rattle.dk_play_laws.proofs.plays.plays_stand_on.Goals as goal

pub returns : goal.returns
returns c = stand_on
