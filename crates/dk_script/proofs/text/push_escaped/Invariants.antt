use Rattle.std.proofs.Common.{◌≡◌, ◌++◌, take, string_bytes}
use Rattle.dk_model.specs.Lines.{escaped}
use Rattle.dk_script.proofs.text.push_escaped.Given as goal

-- the bytes so far are written
abbrev pub invariant-loop-b : goal.invariant-loop-b
invariant-loop-b l = string_bytes l.out ≡ string_bytes l.initial.out ++ escaped (take l.b-index l.bytes)
