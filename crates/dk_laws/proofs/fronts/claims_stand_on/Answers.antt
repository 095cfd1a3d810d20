use Rattle.dk_laws.proofs.LaterOn.{claims_stand}
use Rattle.dk_laws.proofs.fronts.claims_stand_on.Goals as goal

pub returns : goal.returns
returns c = claims_stand
