use Rattle.std.proofs.Common.{ap, ◌∙◌}
use Rattle.dk_overlay.specs.ReadsAndWrites.{ReadsAndWrites}
use Rattle.dk_txn.proofs.Kit.{stops}
use Rattle.dk_sessions.proofs.Openings.{take_long, take_does}
use Rattle.dk_model.specs.Records.{session_name}
use Rattle.dk_refs.specs.Telling.{kind_under}
use Rattle.dk_refs.proofs.Standing.{own_record_stands, own_record_leads}
use Rattle.dk_refs.proofs.Tellings.{kind_never_last, long_tells, then_avoids, unbind_avoids, remove_avoids}
use Rattle.dk_refs.proofs.RecordAsks.{asks_again}
use Rattle.dk_sessions.proofs.opening.take_record.Goals as goal

pub unbind_and_remove-requires-clause-platform : goal.unbind_and_remove-requires-clause-platform
unbind_and_remove-requires-clause-platform g c = ap (λ (t : ReadsAndWrites). t.mode) c.own_record.ensures.same_changes ∙ c.requires

pub unbind_and_remove-requires-clause-stands : goal.unbind_and_remove-requires-clause-stands
unbind_and_remove-requires-clause-stands g c = rw c.id.ensures (own_record_stands c.args.session.now _ c.in_ok-found.ensures.does)

pub returns-in_err-found-clause-does : goal.returns-in_err-found-clause-does
returns-in_err-found-clause-does g c = stops _ c.in_err-found.ensures.does c.from_residual.ensures.1

pub returns-in-None-clause-does : goal.returns-in-None-clause-does
returns-in-None-clause-does g c = take_long c.args.session.now c.in_ok-found.ensures.does (rw c.in-None.is at c.in_ok-session_name.ensures)

pub returns-clause-does : goal.returns-clause-does
returns-clause-does g c =
    let key = rw c.in-Some.is at c.in_ok-session_name.ensures in
    take_does c.args.session.now c.in_ok-found.ensures.does c.in-Some.key key.0 (rw c.id.ensures at c.unbind_and_remove.ensures.does)

pub returns-in-None-clause-kind : goal.returns-in-None-clause-kind
returns-in-None-clause-kind g c = long_tells c.own_record.new.txn.set (kind_under (session_name c.args.session.now.name)) c.too_long.result c.too_long.ensures.told

pub returns-clause-kind : goal.returns-clause-kind
returns-clause-kind g c =
    kind_never_last (kind_under (session_name c.args.session.now.name)) (then_avoids (unbind_avoids c.in-Some.key 3 (λ e. cc) (λ e. cc)) (λ u. remove_avoids _ 3 (λ e. cc) (λ e. cc))) c.unbind_and_remove.ensures.does

pub returns-clause-asks : goal.returns-clause-asks
returns-clause-asks g c =
    let key = rw c.in-Some.is at c.in_ok-session_name.ensures in
    asks_again (session_name c.args.session.now.name) c.in-Some.key key.0 (own_record_leads c.args.session.now _ c.in_ok-found.ensures.does) c.in_ok-found.ensures.asks c.unbind_and_remove.ensures.does.keeps
    (rw c.id.ensures at c.unbind_and_remove.ensures.asks)
