use Rattle.std.proofs.Common.{◌≡◌, true, false, rules}
use Rattle.dk_refs.proofs.RecordAsks.{asks_no_more}
use Rattle.dk_refs.proofs.Lookups.{send_stops, send_refused, send_does}
use Rattle.dk_types.specs.declared.job.Out.TheVariants as out
use Rattle.dk_model.specs.Records.{session_name}
use Rattle.dk_refs.specs.Telling.{kind_under}
use Rattle.dk_refs.proofs.Tellings.{length_passes, length_never, kind_never_last}
use Rattle.dk_refs.proofs.SessionTellings.{connected_avoids, send_avoids}
use Rattle.dk_sessions.proofs.sending.send.Goals as goal

pub returns-in_err-connected-clause-does : goal.returns-in_err-connected-clause-does
returns-in_err-connected-clause-does g c = send_stops c.args.session.now c.args.body.now c.in_err-connected.ensures.does c.from_residual.ensures.1

pub returns-then-not-connected-clause-does : goal.returns-then-not-connected-clause-does
returns-then-not-connected-clause-does g c =
    let off : c.in_ok-connected.connected ≡ false = search rules in
    send_refused c.args.session.now c.args.body.now c.in_ok-connected.ensures.does off

pub returns-clause-does : goal.returns-clause-does
returns-clause-does g c =
    let on : c.in_ok-connected.connected ≡ true = search rules in
    send_does c.args.session.now c.args.body.now c.in_ok-connected.ensures.does on (rw (c.in_ok-copy.ensures, c.as_slice.ensures) at c.send.ensures.does)

pub returns-in_err-connected-clause-length : goal.returns-in_err-connected-clause-length
returns-in_err-connected-clause-length g c =
    length_passes c.in_err-connected.ensures.does _ c.args.body.now (length_never c.in_err-connected.ensures.does c.args.body.now (connected_avoids c.args.session.now)) c.from_residual.ensures.1

pub returns-clause-kind : goal.returns-clause-kind
returns-clause-kind g c = kind_never_last (kind_under (session_name c.args.session.now.name)) (send_avoids c.args.session.now.conn (out.Message c.in_ok-copy.copy)) c.send.ensures.does

pub returns-clause-asks : goal.returns-clause-asks
returns-clause-asks g c = asks_no_more _ c.in_ok-connected.ensures.asks c.send.ensures.does.keeps c.send.ensures.asks
