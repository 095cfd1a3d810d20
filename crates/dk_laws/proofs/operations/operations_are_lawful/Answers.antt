use Rattle.dk_laws.proofs.Lawfuls.{operations_lawful}
use Rattle.dk_laws.proofs.operations.operations_are_lawful.Goals as goal

pub returns : goal.returns
returns c = operations_lawful
