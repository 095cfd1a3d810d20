use Rattle.std.proofs.Common.{◌≡◌, ◌++◌, drop, map}
use Rattle.std.specs.String.{string_bytes}
use Rattle.dk_model.specs.Lines.{text_of}
use Rattle.dk_model.specs.Transcripts.{to_line}
use Rattle.dk_script.proofs.event_text.push_hand.Given as goal

-- what is written, and the lines of the messages that are left
abbrev pub invariant-loop-message : goal.invariant-loop-message
invariant-loop-message l =
    string_bytes l.out ++ text_of (map (to_line l.conn l.name) (drop l.message-index l.outs)) ≡ string_bytes l.initial.out ++ text_of (map (to_line l.conn l.name) l.outs)
