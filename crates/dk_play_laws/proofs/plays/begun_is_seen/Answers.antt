use Rattle.dk_play_laws.proofs.Begun.{begun_seen}
use Rattle.dk_play_laws.proofs.plays.begun_is_seen.Goals as goal

pub returns : goal.returns
returns c = begun_seen
