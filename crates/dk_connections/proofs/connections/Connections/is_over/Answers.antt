use Rattle.std.proofs.Common.{ap, sym, subst, ◌∙◌}
use Rattle.dk_map.proofs.Seen.{get_seen}
use Rattle.dk_connections.specs.MarkedConnections.{IsOnAt}
use Rattle.dk_connections.proofs.connections.Connections.is_over.Goals as goal

pub returns-in-Some : goal.returns-in-Some
returns-in-Some c = λ off. subst IsOnAt (c.in-Some.ensures ∙ get_seen _ (ap (λ s. s.connections) c.self.view_is) c.self.invariant.ordered c.args.conn) (sym c.is_over.ensures ∙ off)

pub returns-in-None : goal.returns-in-None
returns-in-None c = λ _. subst IsOnAt (c.in-None.ensures ∙ get_seen _ (ap (λ s. s.connections) c.self.view_is) c.self.invariant.ordered c.args.conn) tt
