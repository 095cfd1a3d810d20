use Rattle.std.proofs.Common.{◌≡◌, ◌++◌, drop}
use Rattle.std.specs.String.{string_bytes}
use Rattle.dk_model.specs.Lines.{text_of}
use Rattle.dk_model.specs.Transcripts.{lines_of_events, known_after}
use Rattle.dk_script.specs.Knowledge.{known_of}
use Rattle.dk_script.proofs.event_text.push_events.Given as goal

-- what is written and known, and the events that are left
abbrev pub invariant-loop-event : goal.invariant-loop-event
invariant-loop-event l = record {
  text : string_bytes l.out ++ text_of (lines_of_events (known_of l.known) (drop l.event-index l.events)) ≡ string_bytes l.initial.out ++ text_of (lines_of_events (known_of l.initial.known) l.events);
  known : known_after (known_of l.known) (drop l.event-index l.events) ≡ known_after (known_of l.initial.known) l.events;
}
