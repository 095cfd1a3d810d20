use Rattle.std.proofs.Common.{refl}
use Rattle.dk_refs.proofs.RecordAsks.{asks_name, asks_session}
use Rattle.dk_refs.proofs.Lookups.{connected_stops, connected_none, connected_halts, connected_tells}
use Rattle.dk_model.specs.Records.{session_name}
use Rattle.dk_refs.specs.Telling.{kind_under}
use Rattle.dk_refs.proofs.Tellings.{kind_passes, kind_never}
use Rattle.dk_refs.proofs.SessionTellings.{recorded_avoids, record_kind}
use Rattle.dk_sessions.proofs.records.is_connected.Goals as goal

pub returns-in_err-recorded-clause-does : goal.returns-in_err-recorded-clause-does
returns-in_err-recorded-clause-does g c = connected_stops c.args.session.now c.in_err-recorded.ensures.does c.from_residual.ensures.1

pub returns-in-None-clause-does : goal.returns-in-None-clause-does
returns-in-None-clause-does g c = connected_none c.args.session.now (rw c.in-None.is at c.in_ok-recorded.ensures.does)

pub returns-in_err-found-in-Some-clause-does : goal.returns-in_err-found-in-Some-clause-does
returns-in_err-found-in-Some-clause-does g c = connected_halts c.args.session.now (rw c.in-Some.is at c.in_ok-recorded.ensures.does) (rw c.of.ensures at c.in_err-found-in-Some.ensures.does) c.from_residual-in_err-found-in-Some.ensures.1

pub returns-in_ok-found-in-Some-clause-does : goal.returns-in_ok-found-in-Some-clause-does
returns-in_ok-found-in-Some-clause-does g c = connected_tells c.args.session.now (rw c.in-Some.is at c.in_ok-recorded.ensures.does) (rw c.of.ensures at c.in_ok-found-in-Some.ensures.does) refl

pub returns-in_err-recorded-clause-kind : goal.returns-in_err-recorded-clause-kind
returns-in_err-recorded-clause-kind g c =
    let at = kind_under (session_name c.args.session.now.name) in
    kind_passes c.in_err-recorded.ensures.does _ at (kind_never c.in_err-recorded.ensures.does at (recorded_avoids c.args.session.now.name 3)) c.from_residual.ensures.1

pub returns-in_err-found-in-Some-clause-kind : goal.returns-in_err-found-in-Some-clause-kind
returns-in_err-found-in-Some-clause-kind g c =
    record_kind _ c.args.session.now.name (rw c.in-Some.is at c.in_ok-recorded.ensures.does) (rw c.of.ensures at c.in_err-found-in-Some.ensures.does) c.in_err-found-in-Some.ensures.same_changes
    (rw c.of.ensures at c.in_err-found-in-Some.ensures.kind) c.from_residual-in_err-found-in-Some.ensures.1

pub returns-in_err-recorded-clause-asks : goal.returns-in_err-recorded-clause-asks
returns-in_err-recorded-clause-asks g c = asks_name _ c.in_err-recorded.ensures.asks

pub returns-in-None-clause-asks : goal.returns-in-None-clause-asks
returns-in-None-clause-asks g c = asks_name _ c.in_ok-recorded.ensures.asks

pub returns-in_err-found-in-Some-clause-asks : goal.returns-in_err-found-in-Some-clause-asks
returns-in_err-found-in-Some-clause-asks g c = asks_session c.args.session.now.name c.in_ok-recorded.ensures.asks (rw c.in-Some.is at c.in_ok-recorded.ensures.does) c.in_err-found-in-Some.ensures.does.keeps (rw c.of.ensures at c.in_err-found-in-Some.ensures.asks)

pub returns-in_ok-found-in-Some-clause-asks : goal.returns-in_ok-found-in-Some-clause-asks
returns-in_ok-found-in-Some-clause-asks g c = asks_session c.args.session.now.name c.in_ok-recorded.ensures.asks (rw c.in-Some.is at c.in_ok-recorded.ensures.does) c.in_ok-found-in-Some.ensures.does.keeps (rw c.of.ensures at c.in_ok-found-in-Some.ensures.asks)
