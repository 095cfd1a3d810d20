-- What the events of workers come to.
use Rattle.std.specs.Prelude.{◌≡◌, ℕ, None, List}
use Rattle.std.specs.List.{filter_map}
use Rattle.std.specs.FinMap.{get}
use Rattle.dk_types.specs.declared.number.RunNo.{RunNo}
use Rattle.dk_types.specs.declared.event.Event.{Event}
use Rattle.dk_model.specs.Worlds.{World}
use Rattle.dk_model.specs.Events.{Meaning}
use Rattle.dk_model.specs.Histories.{Leads}
use Rattle.dk_model.specs.Legal.{pass_of}
use Rattle.dk_model.specs.Orders.{AreInTurn, item_of}
use Rattle.dk_model.specs.Transcripts.{Follows}
use Rattle.dk_turn.specs.Fronts.{own}
use Rattle.dk_play_laws.specs.Reported.{reported_of, AreKept}
use Rattle.dk_play_laws.specs.Worked.{AreWorked}

-- no run is claimed
abbrev pub IsUnclaimed : World → Type 0
IsUnclaimed w = (run : RunNo) → get w.claims run ≡ None

-- each pass has nothing in hand before and after its events
abbrev pub AllWork : List Event → Type 0
AllWork events = (pass : ℕ) → AreWorked None (own pass_of pass events) None

-- what workers leave: no run is claimed, and where none was given back the events follow their own order
pub record HasWorked (rules : Meaning) (w : World) (events : List Event) (after : World) : Type 0 where
  pub unclaimed : IsUnclaimed after
  pub follows : AreKept events → Follows rules w (filter_map item_of events) (reported_of events) after

-- from a world where no run is claimed, the events of passes that end all that they claim lead to one
abbrev pub WorkersLeaveNoClaim : Type 0
WorkersLeaveNoClaim = (rules : Meaning) (w : World) (events : List Event) (after : World) → IsUnclaimed w → AllWork events → Leads rules w events after → HasWorked rules w events after

-- one worker's claims are each followed at once by the commit of its run, where none is given back
abbrev pub OneWorkerIsInTurn : Type 0
OneWorkerIsInTurn = (events : List Event) → AreWorked None events None → AreKept events → AreInTurn (filter_map item_of events)
