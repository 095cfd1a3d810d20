-- The order of a history, and the text that tells it.
use Rattle.std.specs.Prelude.{◌≡◌, ℕ, List, map}
use Rattle.std.specs.List.{filter_map}
use Rattle.dk_types.specs.declared.event.Event.{Event}
use Rattle.dk_model.specs.Orders.{order_of, item_of}
use Rattle.dk_model.specs.Phases.{AreSmall}
use Rattle.dk_model.specs.Transcripts.{transcript_text}

-- read back from the text of any phases is the list of each phase's claims and commits
abbrev pub OrderIsTold : Type 0
OrderIsTold = (phases : List (List Event)) (commits tasks : ℕ) → AreSmall phases → order_of (transcript_text phases commits tasks) ≡ map (filter_map item_of) phases
