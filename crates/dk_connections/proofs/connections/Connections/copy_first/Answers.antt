use Rattle.std.proofs.Common.{◌≡◌, IfOk, sym, ap, subst, ◌∙◌, take}
use Rattle.std.proofs.Math.Seq.{take-nil}
use Rattle.dk_map.proofs.Seen.{get_seen}
use Rattle.dk_model.specs.Events.{outbox_at}
use Rattle.dk_connections.proofs.Kept.{found_in}
use Rattle.dk_connections.proofs.connections.Connections.copy_first.Goals as goal

pub returns-in-Some : goal.returns-in-Some
returns-in-Some c =
    let found = c.in-Some.ensures ∙ get_seen _ (ap (λ s. s.connections) c.self.view_is) c.self.invariant.ordered c.args.conn in
    subst (λ outs. IfOk c.copy_first.result (λ copies. copies ≡ take c.args.most outs)) (sym (ap outbox_at (found_in c.args.self.now.connections c.args.conn _ found))) c.copy_first.ensures

pub returns-in-None : goal.returns-in-None
returns-in-None c =
    let found = c.in-None.ensures ∙ get_seen _ (ap (λ s. s.connections) c.self.view_is) c.self.invariant.ordered c.args.conn in
    c.from_vec.ensures ∙ c.new.ensures.items ∙ sym (take-nil c.args.most) ∙ ap (λ r. take c.args.most (outbox_at r)) (sym (found_in c.args.self.now.connections c.args.conn _ found))
