use Rattle.dk_play_laws.proofs.Phasing.{spent_seen}
use Rattle.dk_play_laws.proofs.plays.spent_is_seen.Goals as goal

pub returns : goal.returns
returns c = spent_seen
