use Rattle.std.proofs.Common.{◌≡◌, refl, ap, ◌∙◌}
use Rattle.dk_connections.specs.MarkedConnections.{all_of, with_turn}
use Rattle.dk_connections.proofs.Altered.{altered_by}
use Rattle.dk_connections.proofs.Changes.{all_of-change, swept_alive}
use Rattle.dk_connections.proofs.connections.Connections.claim.Goals as goal

pub returns-clause-linked : goal.returns-clause-linked
returns-clause-linked c =
    altered_by c.args.conn _ _ _ (with_turn c.args.turn) (λ l x a p. let met = p.met in let is : x ≡ with_turn c.args.turn l = cc in is) c.alter.result c.alter.ensures.altered

pub returns-clause-world : goal.returns-clause-world
returns-clause-world c = ap all_of (returns-clause-linked c) ∙ all_of-change _ c.args.conn (with_turn c.args.turn) _ (λ l. refl)

pub returns-clause-swept : goal.returns-clause-swept
returns-clause-swept c = swept_alive _ c.alter.ensures.alive_still
