use Rattle.dk_connections.specs.MarkedConnections.{released}
use Rattle.dk_core.proofs.Drawn.{numbers_change}
use Rattle.dk_core.proofs.world.Core.unmark.Goals as goal

pub invariant_of-self : goal.invariant_of-self
invariant_of-self c =
    let now = c.args.self.now in
    record { numbers = numbers_change now.world.commits now.claims now.connections.connections c.release.new.self.connections c.in-Login.conn released c.release.ensures.linked now.numbers }
