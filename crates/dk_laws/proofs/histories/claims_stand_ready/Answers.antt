use Rattle.dk_laws.proofs.SoundHistories.{claims_ready}
use Rattle.dk_laws.proofs.histories.claims_stand_ready.Goals as goal

pub returns : goal.returns
returns c = claims_ready
