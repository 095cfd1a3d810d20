use Rattle.dk_progress.proofs.Entered.{post_fit}
use Rattle.dk_progress.proofs.posts_fit.Goals as goal

pub returns : goal.returns
returns c = post_fit
