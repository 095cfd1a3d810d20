use Rattle.dk_laws.proofs.LaterOn.{fronts_legal}
use Rattle.dk_laws.proofs.fronts.fronts_are_legal.Goals as goal

pub returns : goal.returns
returns c = fronts_legal
