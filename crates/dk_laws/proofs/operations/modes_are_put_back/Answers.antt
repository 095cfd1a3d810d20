use Rattle.dk_laws.proofs.Lawfuls.{modes_put_back}
use Rattle.dk_laws.proofs.operations.modes_are_put_back.Goals as goal

pub returns : goal.returns
returns c = modes_put_back
