use Rattle.std.proofs.Common.{sym, ap, ◌∙◌}
use Rattle.dk_connections.specs.MarkedConnections.{change_some, left, linked, over_now}
use Rattle.dk_connections.proofs.Changes.{left_alive}
use Rattle.dk_connections.proofs.Kept.{absent, alive_none, alive_out, left_unchanged, settled_by}
use Rattle.dk_connections.proofs.connections.Connections.end.Goals as goal

pub returns-in_default-clause-linked : goal.returns-in_default-clause-linked
returns-in_default-clause-linked c =
    sym (left_alive _ c.requires) ∙ ap (λ o. left (change_some o (linked over_now) c.args.self.now.connections)) (sym c.in_default.is)

pub returns-in_default-take-clause-linked : goal.returns-in_default-take-clause-linked
returns-in_default-take-clause-linked c =
    left_unchanged _ _ c.in-Some.conn c.in_default-take.ensures.connections (linked over_now) c.in_default-take.ensures.found c.requires
    ∙ ap (λ o. left (change_some o (linked over_now) c.args.self.now.connections)) (sym c.in-Some.is)

pub returns-in_default-take-clause-alive : goal.returns-in_default-take-clause-alive
returns-in_default-take-clause-alive c = alive_none _ _ c.in-Some.conn c.in_default-take.ensures.connections c.in_default-take.ensures.found c.requires

pub settle-requires-clause-absent : goal.settle-requires-clause-absent
settle-requires-clause-absent c = absent _ _ c.in-Some.conn c.in-Some-take.ensures.connections

pub returns-clause-linked : goal.returns-clause-linked
returns-clause-linked c =
    settled_by _ _ c.in-Some.conn c.in-Some-take.ensures.connections (linked over_now) c.in-Some-take.slot _ c.in-Some-take.ensures.found c.end.ensures _ c.requires c.settle.ensures.connections
    ∙ ap (λ o. left (change_some o (linked over_now) c.args.self.now.connections)) (sym c.in-Some.is)

pub returns-clause-alive : goal.returns-clause-alive
returns-clause-alive c = c.settle.ensures.alive (alive_out _ _ c.in-Some.conn c.in-Some-take.ensures.connections c.requires)
