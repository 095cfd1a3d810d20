use Rattle.std.proofs.Common.{arith}
use Rattle.dk_model.proofs.ScriptLimits.{line_name}
use Rattle.dk_script.proofs.reader.copied_name.Goals as goal

pub unreachable-requires-in-Err-NotUtf8 : goal.unreachable-requires-in-Err-NotUtf8
unreachable-requires-in-Err-NotUtf8 c =
    let named = line_name c.args.bytes.now c.requires in
    let fault = rw c.in-Err-NotUtf8.field-0-is at c.in-Err-NotUtf8.ensures.refused in
    omega (arith, named.text, fault.2, fault.3)
