use Rattle.std.proofs.Common.{ap, ◌∙◌}
use Rattle.std.specs.FinMap.{insert}
use Rattle.dk_connections.specs.MarkedConnections.{all_of}
use Rattle.dk_connections.proofs.Changes.{all_of-insert, swept_alive, swept_same}
use Rattle.dk_connections.proofs.Steps.{alive_seen}
use Rattle.dk_connections.proofs.connections.Connections.connect.Goals as goal

pub returns-in_err-slot-clause-swept : goal.returns-in_err-slot-clause-swept
returns-in_err-slot-clause-swept c = swept_alive _ (alive_seen _ _ c.self.invariant _ (ap (λ s. s.connections) c.self.view_is))

pub returns-in_err-make_room-clause-swept : goal.returns-in_err-make_room-clause-swept
returns-in_err-make_room-clause-swept c = swept_same _ _ c.in_err-make_room.ensures.connections c.in_err-make_room.ensures.alive

pub returns-clause-world : goal.returns-clause-world
returns-clause-world c =
    ap all_of (c.add.ensures.connections ∙ (λ i. insert (c.in_ok-make_room.ensures.connections i) c.args.conn (c.in_ok-slot.ensures i)))
    ∙ all_of-insert c.args.self.now.connections c.args.conn _

pub returns-clause-swept : goal.returns-clause-swept
returns-clause-swept c = swept_alive _ c.add.ensures.alive
