-- What the main pass enters in a phase.
use Rattle.std.specs.Prelude.{◌≡◌, ℕ, Some, List, [], ◌∷◌}
use Rattle.std.specs.FinMap as maps
use Rattle.dk_types.specs.declared.number.ConnNo.{ConnNo}
use Rattle.dk_types.specs.declared.job.Input.{Input}
use Rattle.dk_types.specs.declared.event.Event.{Event}
use Rattle.dk_types.specs.declared.event.Event.TheVariants as event
use Rattle.dk_types.specs.declared.event.PostReply.{PostReply}
use Rattle.dk_model.specs.declared.script.Line.{Line}
use Rattle.dk_model.specs.Legal.{Opened}
use Rattle.dk_turn.specs.Fronts.{Known}
use Rattle.dk_host.specs.Passes.{Enters}
use Rattle.dk_play_laws.specs.FirstParts.{AreFirstLines, AreFirstHands}
use Rattle.dk_play_laws.specs.LineEvents.{Said, IsLineEvent, AreLineEvents, AreHandEvents}

-- a pass of a host with so many passes keeps its number, and enters exactly these events
pub record PassEnters (o : Opened) (count : ℕ) (events : List Event) (old new : Known Event) : Type 0 where
  pub number : new.number ≡ old.number
  pub enters : Enters o count old.number events old.front new.front

-- it posts the input, and is answered
pub record IsPostedBy (o : Opened) (count : ℕ) (old new : Known Event) (conn : ConnNo) (input : Input) : Type 0 where
  pub reply : PostReply
  pub by : PassEnters o count (event.Post old.number conn input reply ∷ []) old new

-- it posts the input to the connection that the name means
pub record PostsFor (o : Opened) (count : ℕ) (old new : Known Event) (s : Said) (name : List ℕ) (input : Input) : Type 0 where
  pub conn : ConnNo
  pub meant : maps.get s.means name ≡ Some conn
  pub posted : IsPostedBy o count old new conn input

-- it enters a line by its event
pub record EntersLine (o : Opened) (count : ℕ) (old new : Known Event) (s : Said) (l : Line) (t : Said) : Type 0 where
  pub event : Event
  pub by : PassEnters o count (event ∷ []) old new
  pub is_event : IsLineEvent old.number s l event t

-- it enters lines in their order
pub record EntersLines (o : Opened) (count : ℕ) (old new : Known Event) (s : Said) (lines : List Line) (t : Said) : Type 0 where
  pub events : List Event
  pub by : PassEnters o count events old new
  pub are_events : AreLineEvents old.number s lines events t

-- it hands each connection as many messages as may wait
pub record HandsAll (o : Opened) (count : ℕ) (old new : Known Event) (conns : List ConnNo) : Type 0 where
  pub events : List Event
  pub by : PassEnters o count events old new
  pub are_hands : AreHandEvents old.number conns events

-- it enters some first lines, and perhaps a Connect to which no number was left
pub record BeginsLines (o : Opened) (count : ℕ) (old new : Known Event) (s : Said) (lines : List Line) : Type 0 where
  pub events : List Event
  pub by : PassEnters o count events old new
  pub are_first : AreFirstLines old.number s lines events

-- it hands some first connections as many messages as may wait
pub record BeginsHands (o : Opened) (count : ℕ) (old new : Known Event) (conns : List ConnNo) : Type 0 where
  pub events : List Event
  pub by : PassEnters o count events old new
  pub are_first : AreFirstHands old.number conns events
