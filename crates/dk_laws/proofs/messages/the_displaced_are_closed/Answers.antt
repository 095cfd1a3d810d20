use Rattle.dk_laws.proofs.Answered.{displaced_closed}
use Rattle.dk_laws.proofs.messages.the_displaced_are_closed.Goals as goal

pub returns : goal.returns
returns c = displaced_closed
