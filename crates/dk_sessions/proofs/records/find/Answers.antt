use Rattle.std.proofs.Common.{◌≡◌, sym, ◌∙◌, rules}
use Rattle.dk_refs.proofs.Lookups.{find_long, find_stops, find_does}
use Rattle.dk_model.specs.Records.{session_name}
use Rattle.dk_refs.proofs.Tellings.{length_passes, length_never}
use Rattle.dk_refs.proofs.SessionTellings.{under_avoids}
use Rattle.dk_sessions.proofs.records.find.Goals as goal

pub returns-then-is_too_long-clause-does : goal.returns-then-is_too_long-clause-does
returns-then-is_too_long-clause-does g c = find_long c.args.name.now c.too_long.ensures.told (sym c.is_too_long.ensures ∙ c.if-is_too_long.true)

pub returns-in_err-found-clause-does : goal.returns-in_err-found-clause-does
returns-in_err-found-clause-does g c = find_stops c.args.name.now (sym c.is_too_long.ensures ∙ c.if-is_too_long.false) c.in_err-found.ensures.does c.from_residual.ensures.1

pub returns-clause-does : goal.returns-clause-does
returns-clause-does g c =
    let same : c.in_ok-copy.copy ≡ c.args.name.now = search rules in
    find_does c.args.name.now (sym c.is_too_long.ensures ∙ c.if-is_too_long.false) c.in_ok-found.ensures.does same

pub returns-in_err-found-clause-length : goal.returns-in_err-found-clause-length
returns-in_err-found-clause-length g c =
    let key = session_name c.args.name.now in
    length_passes c.in_err-found.ensures.does _ key (length_never c.in_err-found.ensures.does key (under_avoids c.args.name.now)) c.from_residual.ensures.1
