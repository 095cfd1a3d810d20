use Rattle.std.proofs.Common.{sym, ap, subst, ◌∙◌}
use Rattle.dk_map.proofs.Seen.{get_seen}
use Rattle.dk_connections.specs.Ready.{first_at, HasInput}
use Rattle.dk_connections.proofs.Turns.{first_there}
use Rattle.dk_connections.proofs.connections.Connections.job.Goals as goal

pub unreachable-requires : goal.unreachable-requires
unreachable-requires c =
    let found = c.in_default.ensures ∙ get_seen _ (ap (λ s. s.connections) c.self.view_is) c.self.invariant.ordered c.args.conn in
    subst HasInput (sym found) c.requires.waits

pub unreachable-requires-in-None : goal.unreachable-requires-in-None
unreachable-requires-in-None c =
    let found = c.in-Some.ensures ∙ get_seen _ (ap (λ s. s.connections) c.self.view_is) c.self.invariant.ordered c.args.conn in
    first_there c.args.conn c.in-Some.slot.now (subst HasInput (sym found) c.requires.waits) (sym c.in_ok-job.ensures ∙ c.in-None.is)

pub returns : goal.returns
returns c =
    let found = c.in-Some.ensures ∙ get_seen _ (ap (λ s. s.connections) c.self.view_is) c.self.invariant.ordered c.args.conn in
    ap (first_at c.args.conn) (sym found) ∙ sym c.in_ok-job.ensures ∙ c.in-Some-2.is
