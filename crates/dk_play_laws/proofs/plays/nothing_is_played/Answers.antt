use Rattle.dk_play_laws.proofs.Phasing.{nothing_played}
use Rattle.dk_play_laws.proofs.plays.nothing_is_played.Goals as goal

pub returns : goal.returns
returns c = nothing_played
