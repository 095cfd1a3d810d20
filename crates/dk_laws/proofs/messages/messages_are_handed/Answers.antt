use Rattle.dk_laws.proofs.Handed.{messages_handed}
use Rattle.dk_laws.proofs.messages.messages_are_handed.Goals as goal

pub returns : goal.returns
returns c = λ rules d budget events w valid leads conn. messages_handed rules d budget events w leads conn
