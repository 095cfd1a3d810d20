use Rattle.std.proofs.Common.{ap, subst, ◌∙◌}
use Rattle.dk_map.proofs.Seen.{get_seen}
use Rattle.dk_connections.specs.MarkedConnections.{HasNoneAt}
use Rattle.dk_connections.proofs.Kept.{none_waits}
use Rattle.dk_connections.proofs.Steps.{alive_seen}
use Rattle.dk_connections.proofs.connections.Connections.has_none_for.Goals as goal

pub returns-in-Some-clause-none : goal.returns-in-Some-clause-none
returns-in-Some-clause-none c is =
    let found = c.in-Some.ensures ∙ get_seen _ (ap (λ s. s.connections) c.self.view_is) c.self.invariant.ordered c.args.conn in
    subst HasNoneAt found (none_waits c.in-Some.slot.now _ c.has_none.ensures is)

pub returns-in-Some-clause-alive : goal.returns-in-Some-clause-alive
returns-in-Some-clause-alive c = alive_seen _ _ c.self.invariant _ (ap (λ s. s.connections) c.self.view_is)

pub returns-in-None-clause-alive : goal.returns-in-None-clause-alive
returns-in-None-clause-alive c = alive_seen _ _ c.self.invariant _ (ap (λ s. s.connections) c.self.view_is)
