use Rattle.dk_play_laws.proofs.Begun.{begun_first}
use Rattle.dk_play_laws.proofs.plays.begun_phases_are_first.Goals as goal

pub returns : goal.returns
returns c = begun_first
