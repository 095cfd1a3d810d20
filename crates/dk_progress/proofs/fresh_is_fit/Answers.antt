use Rattle.dk_progress.proofs.Fits.{fresh_fit}
use Rattle.dk_progress.proofs.fresh_is_fit.Goals as goal

pub returns : goal.returns
returns c = fresh_fit
