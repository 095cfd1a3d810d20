use Rattle.std.proofs.Common.{refl, sym, ap, ◌∙◌, take, is_none, None}
use Rattle.std.proofs.Math.Seq.{take-nil}
use Rattle.dk_model.specs.Deliveries.{without_done}
use Rattle.dk_model.specs.Events.{outbox_at}
use Rattle.dk_connections.specs.MarkedConnections.{all_of, less_first, linked}
use Rattle.dk_connections.proofs.Changes.{all_of-change, all_of-left, swept_alive}
use Rattle.dk_connections.proofs.Kept.{absent, alive_out, found_in, left_unchanged, restored, settled_by, settled_gone, swept_none}
use Rattle.dk_connections.proofs.connections.Connections.hand_last.Goals as goal

pub returns-in_default-clause-handed : goal.returns-in_default-clause-handed
returns-in_default-clause-handed c =
    c.from_vec.ensures ∙ c.new.ensures.items ∙ sym (take-nil c.args.most) ∙ ap (λ r. take c.args.most (outbox_at r)) (sym (found_in _ c.args.conn _ c.in_default.ensures.found))

pub returns-in_default-clause-linked : goal.returns-in_default-clause-linked
returns-in_default-clause-linked c = left_unchanged _ _ c.args.conn c.in_default.ensures.connections (linked (less_first c.args.most)) c.in_default.ensures.found c.in_default.ensures.alive

pub returns-in_default-clause-world : goal.returns-in_default-clause-world
returns-in_default-clause-world c =
    ap all_of (returns-in_default-clause-linked c) ∙ all_of-left _ ∙ ap without_done (all_of-change _ c.args.conn (linked (less_first c.args.most)) (less_first c.args.most) (λ l. refl))

pub returns-in_default-clause-end : goal.returns-in_default-clause-end
returns-in_default-clause-end c = sym (ap is_none (found_in _ c.args.conn None (sym (absent _ _ c.args.conn c.in_default.ensures.connections))))

pub returns-in_default-clause-swept : goal.returns-in_default-clause-swept
returns-in_default-clause-swept c = swept_none _ _ c.args.conn c.in_default.ensures.connections c.in_default.ensures.found c.in_default.ensures.alive

pub settle-requires-clause-absent : goal.settle-requires-clause-absent
settle-requires-clause-absent c = absent _ _ c.args.conn c.in-Some.ensures.connections

pub add-requires-clause-absent : goal.add-requires-clause-absent
add-requires-clause-absent c = absent _ _ c.args.conn c.in-Some.ensures.connections

pub returns-in-Ok-clause-handed : goal.returns-in-Ok-clause-handed
returns-in-Ok-clause-handed c = c.in-Ok.ensures.handed ∙ ap (λ r. take c.args.most (outbox_at r)) (sym (found_in _ c.args.conn _ c.in-Some.ensures.found))

pub returns-in-Ok-clause-linked : goal.returns-in-Ok-clause-linked
returns-in-Ok-clause-linked c =
    settled_by _ _ c.args.conn c.in-Some.ensures.connections (linked (less_first c.args.most)) c.in-Some.slot _ c.in-Some.ensures.found c.in-Ok.ensures.left _ c.in-Some.ensures.alive c.settle.ensures.connections

pub returns-in-Ok-clause-world : goal.returns-in-Ok-clause-world
returns-in-Ok-clause-world c =
    ap all_of (returns-in-Ok-clause-linked c) ∙ all_of-left _ ∙ ap without_done (all_of-change _ c.args.conn (linked (less_first c.args.most)) (less_first c.args.most) (λ l. refl))

pub returns-in-Ok-clause-end : goal.returns-in-Ok-clause-end
returns-in-Ok-clause-end c = c.is_done-end.ensures ∙ settled_gone _ _ c.args.conn c.in-Some.ensures.connections c.hand.new.self _ c.settle.ensures.connections

pub returns-in-Ok-clause-swept : goal.returns-in-Ok-clause-swept
returns-in-Ok-clause-swept c =
    swept_alive _ (c.settle.ensures.alive (alive_out _ _ c.args.conn c.in-Some.ensures.connections c.in-Some.ensures.alive))

pub returns-in-Err-clause-swept : goal.returns-in-Err-clause-swept
returns-in-Err-clause-swept c = swept_alive _ c.add.ensures.alive

pub returns-in-Err-clause-refused : goal.returns-in-Err-clause-refused
returns-in-Err-clause-refused c =
    restored _ _ c.args.conn c.in-Some.ensures.connections c.in-Some.ensures.spare c.in-Some.slot _ c.in-Some.ensures.found c.in-Err.ensures.refused _ c.add.ensures.connections c.add.ensures.spare
