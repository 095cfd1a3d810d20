use Rattle.dk_laws.proofs.ShortBodies.{bodies_short}
use Rattle.dk_laws.proofs.messages.bodies_are_short.Goals as goal

pub returns : goal.returns
returns c = bodies_short
