use Rattle.dk_laws.proofs.SoundHistories.{worlds_valid}
use Rattle.dk_laws.proofs.histories.worlds_stay_valid.Goals as goal

pub returns : goal.returns
returns c = worlds_valid
