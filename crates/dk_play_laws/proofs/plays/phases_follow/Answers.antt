use Rattle.dk_play_laws.proofs.Phasing.{phases_follow}
use Rattle.dk_play_laws.proofs.plays.phases_follow.Goals as goal

pub returns : goal.returns
returns c = phases_follow
