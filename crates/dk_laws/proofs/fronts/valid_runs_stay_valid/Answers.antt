use Rattle.dk_laws.proofs.Between.{valid_on}
use Rattle.dk_laws.proofs.fronts.valid_runs_stay_valid.Goals as goal

pub returns : goal.returns
returns c = valid_on
