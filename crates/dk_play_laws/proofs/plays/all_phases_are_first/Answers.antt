use Rattle.dk_play_laws.proofs.Begun.{all_first}
use Rattle.dk_play_laws.proofs.plays.all_phases_are_first.Goals as goal

pub returns : goal.returns
returns c = all_first
