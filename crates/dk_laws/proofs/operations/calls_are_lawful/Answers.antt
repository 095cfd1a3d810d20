use Rattle.dk_laws.proofs.Lawfuls.{calls_lawful}
use Rattle.dk_laws.proofs.operations.calls_are_lawful.Goals as goal

pub returns : goal.returns
returns c = calls_lawful
