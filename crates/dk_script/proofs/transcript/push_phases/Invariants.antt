use Rattle.std.proofs.Common.{◌≡◌, ◌++◌, drop}
use Rattle.std.specs.String.{string_bytes}
use Rattle.dk_model.specs.Lines.{text_of}
use Rattle.dk_model.specs.Phases.{phases_of}
use Rattle.dk_model.specs.Transcripts.{lines_of_phases}
use Rattle.dk_script.specs.Knowledge.{known_of}
use Rattle.dk_script.proofs.transcript.push_phases.Given as goal

-- what is written, and the phases that are left
abbrev pub invariant-loop-i : goal.invariant-loop-i
invariant-loop-i l =
    string_bytes l.out ++ text_of (lines_of_phases l.i (known_of l.known) (phases_of l.events (drop l.i l.marks))) ≡ string_bytes l.initial.out ++ text_of (lines_of_phases 0 (known_of l.initial.known) (phases_of l.events l.marks))
