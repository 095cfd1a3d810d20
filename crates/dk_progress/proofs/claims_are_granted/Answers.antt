use Rattle.dk_progress.proofs.Granted.{all_granted}
use Rattle.dk_progress.proofs.claims_are_granted.Goals as goal

pub returns : goal.returns
returns c = all_granted
