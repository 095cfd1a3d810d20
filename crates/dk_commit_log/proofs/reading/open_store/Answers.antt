use Rattle.std.proofs.Common.{Err, sym, ap, ◌∙◌}
use Rattle.dk_commit_log.proofs.Beginning.{looks_settled, not_faulty}
use Rattle.dk_commit_log.proofs.Scanned.{fault_of, err_of}
use Rattle.dk_commit_log.proofs.reading.open_store.Goals as goal

pub returns-in-Ok-Some-clause-looks : goal.returns-in-Ok-Some-clause-looks
returns-in-Ok-Some-clause-looks g c tells rests = looks_settled c.args.side _ _ rests (c.open.ensures.run tells)

pub returns-in-Err-clause-damaged : goal.returns-in-Err-clause-damaged
returns-in-Err-clause-damaged g c tells at is header payloads file =
    not_faulty _ header payloads at file (c.open.ensures.fault tells at (c.in-Err.is ∙ ap Err (fault_of c.in-Err.refused c.in-Err.ensures.only at (sym c.refused_by.ensures ∙ err_of is))))
