use Rattle.dk_progress.proofs.Fits.{hands_all}
use Rattle.dk_progress.proofs.hands_take_all.Goals as goal

pub returns : goal.returns
returns c = hands_all
