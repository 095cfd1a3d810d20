use Rattle.std.proofs.Common.{◌≡◌, ℕ, List, Err, sym, subst, ◌∙◌}
use Rattle.dk_types.specs.Payload.{whole}
use Rattle.dk_wire.specs.Payload.{Decodes}
use Rattle.dk_model.specs.Records.{session_bytes, next_session}
use Rattle.dk_records.specs.RecordLaws.{IsSessionRecord}
use Rattle.dk_core.proofs.Records.{spelled, unspelled}
use Rattle.dk_core.proofs.opening.recorded.decode_record.Goals as goal

pub returns-in-Ok : goal.returns-in-Ok
returns-in-Ok c =
    let read = rw c.in-Ok.is at c.decode.ensures in
    spelled c.args.bytes.now c.in-Ok.record read.0 (sym c.as_slice.ensures ∙ read.1)

pub returns-in-Err-NotInGrammar : goal.returns-in-Err-NotInGrammar
returns-in-Err-NotInGrammar c =
    let arm = c.in-Err-NotInGrammar in
    let told = subst (Decodes IsSessionRecord session_bytes next_session c.as_slice.result.now) arm.is c.decode.ensures in
    let fault = subst (λ e. Decodes IsSessionRecord session_bytes next_session c.as_slice.result.now (Err e)) arm.field-0-is told in
    unspelled c.args.bytes.now arm.field-0-0 (subst (λ (b : List ℕ). whole next_session b ≡ Err arm.field-0-0) c.as_slice.ensures fault.0)
