use Rattle.dk_play_laws.proofs.Drained.{drains_end}
use Rattle.dk_play_laws.proofs.plays.drains_end_their_claims.Goals as goal

pub returns : goal.returns
returns c = drains_end
