use Rattle.dk_laws.proofs.LaterOn.{handed_first}
use Rattle.dk_laws.proofs.fronts.handed_from_the_first.Goals as goal

pub returns : goal.returns
returns c = handed_first
