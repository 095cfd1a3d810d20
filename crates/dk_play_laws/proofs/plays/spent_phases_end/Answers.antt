use Rattle.dk_play_laws.proofs.Phasing.{spent_phases}
use Rattle.dk_play_laws.proofs.plays.spent_phases_end.Goals as goal

pub returns : goal.returns
returns c = spent_phases
