use Rattle.dk_play_laws.proofs.Begun.{begun_on}
use Rattle.dk_play_laws.proofs.plays.begun_stands_on.Goals as goal

pub returns : goal.returns
returns c = begun_on
