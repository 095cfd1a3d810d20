use Rattle.std.proofs.Common.{◌≡◌, Ok, Err, sym, ap, ◌∙◌}
use Rattle.dk_types.specs.declared.blob.Blob.{Blob}
use Rattle.dk_commit_log.proofs.Scanned.{not_ended, not_cut_off, damage_of, err_of}
use Rattle.dk_commit_log.proofs.reading.payload_at.Goals as goal

pub returns-in-Ok-None-clause-damaged : goal.returns-in-Ok-None-clause-damaged
returns-in-Ok-None-clause-damaged g c tells at is header done payload more scanned reads = not_ended _ header done payload more (c.next.ensures.none tells (c.in-Ok-None.is ∙ ap Ok c.in-Ok-None.field-0-is) header done scanned) reads

pub returns-in-Err-clause-damaged : goal.returns-in-Err-clause-damaged
returns-in-Err-clause-damaged g c tells at is header done payload more scanned reads =
    let found = damage_of c.in-Err.refused c.in-Err.ensures.only at (sym c.refused_by.ensures ∙ err_of is) in
    not_cut_off _ header done payload more _ _ at scanned reads (c.next.ensures.damaged tells at (c.in-Err.is ∙ ap Err found))
