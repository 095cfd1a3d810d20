use Rattle.dk_play_laws.proofs.Phasing.{plays_seen}
use Rattle.dk_play_laws.proofs.plays.plays_are_seen.Goals as goal

pub returns : goal.returns
returns c = plays_seen
