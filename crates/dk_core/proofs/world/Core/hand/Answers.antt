use Rattle.dk_connections.specs.MarkedConnections.{less_first, linked}
use Rattle.dk_core.proofs.Drawn.{numbers_handed}
use Rattle.dk_core.proofs.Entering.{hands, hands_short}
use Rattle.dk_core.proofs.world.Core.hand.Goals as goal

pub invariant_of-self : goal.invariant_of-self
invariant_of-self c =
    record { numbers = numbers_handed c.hand.result c.args.self.now.world.commits c.args.self.now.claims c.args.self.now.connections c.hand.new.self c.args.conn (linked (less_first c.args.most)) c.hand.ensures.linked c.hand.ensures.refused c.args.self.now.numbers }

pub returns-clause-hands : goal.returns-clause-hands
returns-clause-hands c =
    hands c.args.self.now c.args.conn c.args.most c.hand.new.self _ c.hand.result c.hand.ensures.handed c.hand.ensures.linked c.hand.ensures.world c.hand.ensures.end c.hand.ensures.swept c.hand.ensures.refused

pub returns-clause-bodies : goal.returns-clause-bodies
returns-clause-bodies c = λ standing. hands_short c.args.self.now standing c.args.conn c.args.most c.hand.result c.hand.ensures.handed
