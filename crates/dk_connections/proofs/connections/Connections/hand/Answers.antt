use Rattle.std.proofs.Common.{◌≡◌, Some, None, Result, Ok, Err, IfOk, OnOk, OnErr, refl, sym, ap, subst, ◌∙◌, take, is_none}
use Rattle.std.proofs.Math.Seq.{take-nil}
use Rattle.std.specs.FinMap.{get, insert}
use Rattle.dk_model.specs.Deliveries.{without_done}
use Rattle.dk_model.specs.Events.{outbox_at}
use Rattle.dk_connections.specs.MarkedConnections.{all_of, change, changed_at, left, less_first, linked}
use Rattle.dk_connections.proofs.Changes.{all_of-change, all_of-left, change_none, left_alive, put_same, swept_alive}
use Rattle.dk_connections.proofs.Kept.{found_in, none_handed, none_left, none_there, put_there, same_shown}
use Rattle.dk_connections.proofs.connections.Connections.hand.Goals as goal

pub returns-then-has_none_for-clause-handed : goal.returns-then-has_none_for-clause-handed
returns-then-has_none_for-clause-handed c =
    c.from_vec.ensures ∙ c.new.ensures.items ∙ sym (take-nil c.args.most)
    ∙ ap (take c.args.most) (sym (ap outbox_at (found_in _ c.args.conn _ refl) ∙ none_handed _ (c.has_none_for.ensures.none c.if-has_none_for.true)))

pub returns-then-has_none_for-clause-linked : goal.returns-then-has_none_for-clause-linked
returns-then-has_none_for-clause-linked c = none_left _ c.args.conn c.args.most (c.has_none_for.ensures.none c.if-has_none_for.true) c.has_none_for.ensures.alive

pub returns-then-has_none_for-clause-world : goal.returns-then-has_none_for-clause-world
returns-then-has_none_for-clause-world c =
    ap all_of (returns-then-has_none_for-clause-linked c) ∙ all_of-left _ ∙ ap without_done (all_of-change _ c.args.conn (linked (less_first c.args.most)) (less_first c.args.most) (λ l. refl))

pub returns-then-has_none_for-clause-end : goal.returns-then-has_none_for-clause-end
returns-then-has_none_for-clause-end c = none_there _ (c.has_none_for.ensures.none c.if-has_none_for.true) ∙ sym (ap is_none (found_in _ c.args.conn _ refl))

pub returns-then-has_none_for-clause-swept : goal.returns-then-has_none_for-clause-swept
returns-then-has_none_for-clause-swept c = swept_alive _ c.has_none_for.ensures.alive

-- where no connection is there
pub returns-in_default-clause-handed : goal.returns-in_default-clause-handed
returns-in_default-clause-handed c =
    c.from_vec-in_default.ensures ∙ c.new-in_default.ensures.items ∙ sym (take-nil c.args.most) ∙ ap (λ r. take c.args.most (outbox_at r)) (sym (found_in _ c.args.conn _ c.in_default.ensures.altered.0))

pub returns-in_default-clause-linked : goal.returns-in_default-clause-linked
returns-in_default-clause-linked c =
    let h = c.in_default.ensures.altered in
    h.1 ∙ sym (left_alive _ c.in_default.ensures.alive) ∙ ap left (change_none _ c.args.conn (linked (less_first c.args.most)) h.0)

pub returns-in_default-clause-world : goal.returns-in_default-clause-world
returns-in_default-clause-world c =
    ap all_of (returns-in_default-clause-linked c) ∙ all_of-left _ ∙ ap without_done (all_of-change _ c.args.conn (linked (less_first c.args.most)) (less_first c.args.most) (λ l. refl))

pub returns-in_default-clause-end : goal.returns-in_default-clause-end
returns-in_default-clause-end c =
    let h = c.in_default.ensures.altered in
    sym (ap is_none (found_in _ c.args.conn None (h.0 ∙ ap (λ m. get m c.args.conn) (sym h.1))))

pub returns-in_default-clause-swept : goal.returns-in_default-clause-swept
returns-in_default-clause-swept c = swept_alive _ c.in_default.ensures.alive_still

-- where memory was refused
pub returns-in_err-handed-clause-swept : goal.returns-in_err-handed-clause-swept
returns-in_err-handed-clause-swept c = swept_alive _ c.in-Some.ensures.alive_still

held : {A E X : Type 0} → X → (r : Result A E) → OnErr r X
held x (Ok a) = tt
held x (Err e) = x

pub returns-in_err-handed-clause-refused : goal.returns-in_err-handed-clause-refused
returns-in_err-handed-clause-refused c =
    let h = c.in-Some.ensures.altered in
    let old = c.args.self.now.connections in
    let is = subst (λ r. OnErr r (h.3.left.now ≡ h.3.shown.now)) c.in_err-handed.was h.3.met.1.1 in
    held (same_shown _ _ (h.4 ∙ ap (insert old c.args.conn) (sym h.3.leaves ∙ is ∙ h.3.shows) ∙ put_same old c.args.conn h.0 h.2) c.in-Some.ensures.spare) c.from_residual.result

-- where the messages were handed
pub returns-clause-handed : goal.returns-clause-handed
returns-clause-handed c =
    let h = c.in-Some.ensures.altered in
    let is = subst (λ r. IfOk r (λ outs. outs ≡ take c.args.most h.3.shown.now.connection.outbox)) c.in_ok-handed.was h.3.met.0 in
    is ∙ ap (λ l. take c.args.most l.connection.outbox) h.3.shows ∙ ap (λ r. take c.args.most (outbox_at r)) (sym (found_in _ c.args.conn (Some h.0) h.2))

pub returns-clause-linked : goal.returns-clause-linked
returns-clause-linked c =
    let h = c.in-Some.ensures.altered in
    let old = c.args.self.now.connections in
    let less = linked (less_first c.args.most) in
    let is = subst (λ r. OnOk r (h.3.left.now ≡ less h.3.shown.now)) c.in_ok-handed.was h.3.met.1.0 in
    sym (left_alive _ c.in-Some.ensures.alive_still) ∙ ap left (h.4 ∙ ap (insert old c.args.conn) (sym h.3.leaves ∙ is ∙ ap less h.3.shows) ∙ ap (λ r. changed_at r c.args.conn less old) h.2)

pub returns-clause-world : goal.returns-clause-world
returns-clause-world c =
    ap all_of (returns-clause-linked c) ∙ all_of-left _ ∙ ap without_done (all_of-change _ c.args.conn (linked (less_first c.args.most)) (less_first c.args.most) (λ l. refl))

pub returns-clause-end : goal.returns-clause-end
returns-clause-end c =
    let h = c.in-Some.ensures.altered in
    sym (ap is_none (found_in _ c.args.conn (Some h.1) (put_there c.args.self.now.connections _ c.args.conn h.1 h.4)))

pub returns-clause-swept : goal.returns-clause-swept
returns-clause-swept c = swept_alive _ c.in-Some.ensures.alive_still
