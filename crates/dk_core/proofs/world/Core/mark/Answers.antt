use Rattle.dk_connections.specs.MarkedConnections.{with_turn}
use Rattle.dk_core.proofs.Drawn.{numbers_change}
use Rattle.dk_core.proofs.world.Core.mark.Goals as goal

pub invariant_of-self-in-Input : goal.invariant_of-self-in-Input
invariant_of-self-in-Input c =
    record { numbers = numbers_change c.args.self.now.world.commits c.args.self.now.claims c.args.self.now.connections.connections c.claim.new.self.connections c.in-Input.conn (with_turn c.args.run) c.claim.ensures.linked c.args.self.now.numbers }
