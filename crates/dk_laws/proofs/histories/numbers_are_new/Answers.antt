use Rattle.dk_laws.proofs.SoundHistories.{numbers_new}
use Rattle.dk_laws.proofs.histories.numbers_are_new.Goals as goal

pub returns : goal.returns
returns c = numbers_new
