use Rattle.dk_sessions.proofs.Openings.{open_long, open_stops, open_exists, open_made}
use Rattle.dk_model.specs.Records.{session_name}
use Rattle.dk_refs.proofs.Tellings.{length_passes, length_never, binding_avoids}
use Rattle.dk_txn.proofs.Asking.{asks_then}
use Rattle.dk_sessions.proofs.opening.new_record.Goals as goal

pub returns-in-None-clause-does : goal.returns-in-None-clause-does
returns-in-None-clause-does g c = open_long c.args.session.now c.too_long.ensures.told (rw c.in-None.is at c.in_ok-session_name.ensures)

pub returns-in_err-binding-clause-does : goal.returns-in_err-binding-clause-does
returns-in_err-binding-clause-does g c = let key = rw c.in-Some.is at c.in_ok-session_name.ensures in open_stops c.args.session.now c.in-Some.key key.0 key.1 c.in_err-binding.ensures.does c.from_residual-in_err-binding.ensures.1

pub returns-in-Some-2-clause-does : goal.returns-in-Some-2-clause-does
returns-in-Some-2-clause-does g c = let key = rw c.in-Some.is at c.in_ok-session_name.ensures in open_exists c.args.session.now c.in-Some.key key.0 key.1 (rw c.in-Some-2.is at c.in_ok-binding.ensures.does)

pub returns-clause-does : goal.returns-clause-does
returns-clause-does g c = let key = rw c.in-Some.is at c.in_ok-session_name.ensures in open_made c.args.session.now c.in-Some.key key.0 key.1 (rw c.in-None-2.is at c.in_ok-binding.ensures.does) c.record_under.ensures.does

pub returns-in_err-binding-clause-length : goal.returns-in_err-binding-clause-length
returns-in_err-binding-clause-length g c =
    let at = session_name c.args.session.now.name in
    length_passes c.in_err-binding.ensures.does _ at (length_never c.in_err-binding.ensures.does at (binding_avoids c.in-Some.key 4)) c.from_residual-in_err-binding.ensures.1

pub returns-clause-length : goal.returns-clause-length
returns-clause-length g c = c.record_under.ensures.length (session_name c.args.session.now.name)

pub returns-in_err-binding-clause-asks : goal.returns-in_err-binding-clause-asks
returns-in_err-binding-clause-asks g c = let key = rw c.in-Some.is at c.in_ok-session_name.ensures in rw key.0 at c.in_err-binding.ensures.asks

pub returns-in-Some-2-clause-asks : goal.returns-in-Some-2-clause-asks
returns-in-Some-2-clause-asks g c = let key = rw c.in-Some.is at c.in_ok-session_name.ensures in rw key.0 at c.in_ok-binding.ensures.asks

pub returns-clause-asks : goal.returns-clause-asks
returns-clause-asks g c = let key = rw c.in-Some.is at c.in_ok-session_name.ensures in rw key.0 at (asks_then c.in_ok-binding.ensures.asks c.record_under.ensures.asks)
