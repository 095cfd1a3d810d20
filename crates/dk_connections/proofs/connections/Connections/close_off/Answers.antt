use Rattle.dk_model.specs.Deliveries.{close_off}
use Rattle.dk_connections.specs.MarkedConnections.{linked}
use Rattle.dk_connections.proofs.Kept.{absent, alive_none, alive_out, left_unchanged, settled_by}
use Rattle.dk_connections.proofs.connections.Connections.close_off.Goals as goal

pub returns-in_default-clause-linked : goal.returns-in_default-clause-linked
returns-in_default-clause-linked c = left_unchanged _ _ c.args.conn c.in_default.ensures.connections (linked close_off) c.in_default.ensures.found c.in_default.ensures.alive

pub returns-in_default-clause-alive : goal.returns-in_default-clause-alive
returns-in_default-clause-alive c = alive_none _ _ c.args.conn c.in_default.ensures.connections c.in_default.ensures.found c.in_default.ensures.alive

pub settle-requires-clause-absent : goal.settle-requires-clause-absent
settle-requires-clause-absent c = absent _ _ c.args.conn c.in-Some.ensures.connections

pub returns-clause-linked : goal.returns-clause-linked
returns-clause-linked c =
    settled_by _ _ c.args.conn c.in-Some.ensures.connections (linked close_off) c.in-Some.slot _ c.in-Some.ensures.found c.close_off.ensures _ c.in-Some.ensures.alive c.settle.ensures.connections

pub returns-clause-alive : goal.returns-clause-alive
returns-clause-alive c = c.settle.ensures.alive (alive_out _ _ c.args.conn c.in-Some.ensures.connections c.in-Some.ensures.alive)
