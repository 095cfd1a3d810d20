use Rattle.std.proofs.Common.{ap, ◌∙◌}
use Rattle.dk_map.proofs.Seen.{len_seen}
use Rattle.dk_connections.proofs.Changes.{swept_alive}
use Rattle.dk_connections.proofs.Steps.{alive_seen}
use Rattle.dk_connections.proofs.connections.Connections.len.Goals as goal

pub returns-clause-len : goal.returns-clause-len
returns-clause-len c = c.len.ensures.len ∙ len_seen _ (ap (λ s. s.connections) c.self.view_is) c.self.invariant.ordered

pub returns-clause-swept : goal.returns-clause-swept
returns-clause-swept c = swept_alive _ (alive_seen _ _ c.self.invariant _ (ap (λ s. s.connections) c.self.view_is))
