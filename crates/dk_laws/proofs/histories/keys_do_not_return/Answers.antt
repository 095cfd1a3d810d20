use Rattle.dk_laws.proofs.SoundHistories.{keys_gone}
use Rattle.dk_laws.proofs.histories.keys_do_not_return.Goals as goal

pub returns : goal.returns
returns c = keys_gone
