use Rattle.std.proofs.Common.{Some, refl, sym, ap, subst, ◌∙◌}
use Rattle.std.proofs.lemmas.Result.{on_ok_weaker, on_err_weaker}
use Rattle.std.specs.FinMap.{insert}
use Rattle.dk_model.specs.declared.waiting.Waiting.TheVariants as waits
use Rattle.dk_model.specs.Events.{is_open_at, put_last}
use Rattle.dk_connections.specs.MarkedConnections.{all_of, changed_at, linked}
use Rattle.dk_connections.specs.Posts.{PostAnswer}
use Rattle.dk_connections.proofs.Changes.{all_of-change, put_same, swept_alive}
use Rattle.dk_connections.proofs.Kept.{found_in, same_shown}
use Rattle.dk_connections.proofs.connections.Connections.post.Goals as goal

pub returns-in-Some-clause-answer : goal.returns-in-Some-clause-answer
returns-in-Some-clause-answer c =
    let h = c.in-Some.ensures.altered in
    subst (λ r. PostAnswer r c.args.input c.in-Some.posted) (ap (λ l. Some l.connection) h.3.shows ∙ sym (found_in _ c.args.conn (Some h.0) h.2)) h.3.met.0

pub returns-in-Some-clause-linked : goal.returns-in-Some-clause-linked
returns-in-Some-clause-linked c =
    let h = c.in-Some.ensures.altered in
    let old = c.args.self.now.connections in
    let put = linked (put_last (waits.Input c.args.input)) in
    on_ok_weaker c.in-Some.posted (λ is. h.4 ∙ ap (insert old c.args.conn) (sym h.3.leaves ∙ is ∙ ap put h.3.shows) ∙ ap (λ r. changed_at r c.args.conn put old) h.2) h.3.met.1.0

pub returns-in-Some-clause-world : goal.returns-in-Some-clause-world
returns-in-Some-clause-world c = on_ok_weaker c.in-Some.posted (λ e. ap all_of e ∙ all_of-change _ c.args.conn (linked (put_last (waits.Input c.args.input))) _ (λ l. refl)) (returns-in-Some-clause-linked c)

pub returns-in-Some-clause-swept : goal.returns-in-Some-clause-swept
returns-in-Some-clause-swept c = swept_alive _ c.in-Some.ensures.alive_still

pub returns-in-Some-clause-refused : goal.returns-in-Some-clause-refused
returns-in-Some-clause-refused c =
    let h = c.in-Some.ensures.altered in
    let old = c.args.self.now.connections in
    on_err_weaker c.in-Some.posted
    (λ is. same_shown _ _ (h.4 ∙ ap (insert old c.args.conn) (sym h.3.leaves ∙ is ∙ h.3.shows) ∙ put_same old c.args.conn h.0 h.2) c.in-Some.ensures.spare) h.3.met.1.1

pub returns-in-None-clause-answer : goal.returns-in-None-clause-answer
returns-in-None-clause-answer c = ap is_open_at (found_in _ c.args.conn _ c.in-None.ensures.altered.0)

pub returns-in-None-clause-refused : goal.returns-in-None-clause-refused
returns-in-None-clause-refused c = same_shown _ _ c.in-None.ensures.altered.1 c.in-None.ensures.spare

pub returns-in-None-clause-swept : goal.returns-in-None-clause-swept
returns-in-None-clause-swept c = swept_alive _ c.in-None.ensures.alive_still
