use Rattle.std.proofs.Common.{sym, ap, subst, ◌∙◌}
use Rattle.std.proofs.lemmas.List.{nil_from_length}
use Rattle.std.specs.Vec.Iter.{into_iter_items}
use Rattle.dk_model.specs.Deliveries.{with_closed, without_done}
use Rattle.dk_connections.specs.MarkedConnections.{all_of}
use Rattle.dk_connections.proofs.Sends.{Closing, closing_next, closing_ends}
use Rattle.dk_connections.proofs.connections.Connections.close_all.Goals as goal

pub loop-conn-preserved : goal.loop-conn-preserved
loop-conn-preserved c =
    closing_next _ c.loop-conn.self.connections _ (into_iter_items c.into_iter-conn-iterator.result) _ c.in-Some.conn
    (subst (Closing c.args.self.now.connections c.loop-conn.self.connections (into_iter_items c.into_iter-conn-iterator.result)) c.in-Some.ensures.steps.0 c.loop-conn.invariant) c.close_off.ensures.linked
    c.close_off.ensures.alive

pub returns-clause-world : goal.returns-clause-world
returns-clause-world c =
    let rest = c.loop-conn.conn-iterator in
    closing_ends c.args.self.now.connections c.loop-conn.self.connections (into_iter_items c.into_iter-conn-iterator.result) (into_iter_items rest) c.loop-conn.invariant
    (nil_from_length _ (sym rest.rest.ok.0 ∙ c.in-None.ensures.steps.0))
    ∙ ap (λ cs. without_done (with_closed cs (all_of c.args.self.now.connections))) c.into_iter-conn-iterator.ensures.into_iter_gives.0
