use Rattle.std.proofs.Common.{Some, sym, ap, ◌∙◌}
use Rattle.dk_model.specs.Deliveries.{takes, with_out}
use Rattle.std.specs.FinMap.{insert}
use Rattle.dk_connections.specs.MarkedConnections.{changed_at, linked}
use Rattle.dk_connections.proofs.Kept.{found_in}
use Rattle.dk_connections.proofs.connections.Connections.send.Goals as goal

pub returns-in-Some-clause-linked : goal.returns-in-Some-clause-linked
returns-in-Some-clause-linked c =
    let h = c.in-Some.ensures.altered in
    let old = c.args.self.now.connections in
    let sent = linked (with_out c.args.ready) in
    h.4 ∙ ap (insert old c.args.conn) (sym h.3.leaves ∙ h.3.met.0 ∙ ap sent h.3.shows) ∙ ap (λ r. changed_at r c.args.conn sent old) h.2

pub returns-in-Some-clause-answer : goal.returns-in-Some-clause-answer
returns-in-Some-clause-answer c =
    let h = c.in-Some.ensures.altered in
    h.3.met.1 ∙ ap takes (ap (λ l. Some l.connection) h.3.shows ∙ sym (found_in _ c.args.conn (Some h.0) h.2))

pub returns-in-None-clause-linked : goal.returns-in-None-clause-linked
returns-in-None-clause-linked c = let h = c.in-None.ensures.altered in h.1 ∙ ap (λ r. changed_at r c.args.conn (linked (with_out c.args.ready)) c.args.self.now.connections) h.0

pub returns-in-None-clause-answer : goal.returns-in-None-clause-answer
returns-in-None-clause-answer c = ap takes (sym (found_in _ c.args.conn _ c.in-None.ensures.altered.0))
