use Rattle.std.proofs.Common.{ap, is_some, ◌∙◌}
use Rattle.dk_map.proofs.Seen.{get_seen}
use Rattle.dk_connections.proofs.Kept.{some_in}
use Rattle.dk_connections.proofs.connections.Connections.contains.Goals as goal

pub returns-clause-linked : goal.returns-clause-linked
returns-clause-linked c = c.contains_key.ensures ∙ ap is_some (get_seen _ (ap (λ s. s.connections) c.self.view_is) c.self.invariant.ordered c.args.conn)

pub returns-clause-world : goal.returns-clause-world
returns-clause-world c = returns-clause-linked c ∙ some_in c.args.self.now.connections c.args.conn
