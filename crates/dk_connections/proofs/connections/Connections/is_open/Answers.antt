use Rattle.std.proofs.Common.{sym, ap, ◌∙◌}
use Rattle.dk_map.proofs.Seen.{get_seen}
use Rattle.dk_model.specs.Events.{is_open_at}
use Rattle.dk_connections.proofs.Kept.{found_in}
use Rattle.dk_connections.proofs.connections.Connections.is_open.Goals as goal

pub returns-in-Some : goal.returns-in-Some
returns-in-Some c =
    let found = c.in-Some.ensures ∙ get_seen _ (ap (λ s. s.connections) c.self.view_is) c.self.invariant.ordered c.args.conn in
    c.is_open.ensures ∙ sym (ap is_open_at (found_in c.args.self.now.connections c.args.conn _ found))

pub returns-in-None : goal.returns-in-None
returns-in-None c =
    let found = c.in-None.ensures ∙ get_seen _ (ap (λ s. s.connections) c.self.view_is) c.self.invariant.ordered c.args.conn in
    sym (ap is_open_at (found_in c.args.self.now.connections c.args.conn _ found))
