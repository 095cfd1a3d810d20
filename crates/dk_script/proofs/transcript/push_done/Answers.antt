use Rattle.std.proofs.Common.{◌∙◌, append_assoc}
use Rattle.dk_script.proofs.transcript.push_done.Goals as goal

pub returns : goal.returns
returns c = record { ok = c.in_ok-writeln.ensures.bytes ∙ simp append_assoc }
