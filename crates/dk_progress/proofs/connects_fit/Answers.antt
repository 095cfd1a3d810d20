use Rattle.dk_progress.proofs.Entered.{connect_fit}
use Rattle.dk_progress.proofs.connects_fit.Goals as goal

pub returns : goal.returns
returns c = connect_fit
