use Rattle.dk_laws.proofs.LaterOn.{honest_on}
use Rattle.dk_laws.proofs.fronts.honest_runs_stay_honest.Goals as goal

pub returns : goal.returns
returns c = honest_on
