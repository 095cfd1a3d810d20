use Rattle.dk_progress.proofs.Fits.{ticks_fit}
use Rattle.dk_progress.proofs.ticks_fit.Goals as goal

pub returns : goal.returns
returns c = ticks_fit
