-- For what a session that is polled may wait.
use Rattle.std.specs.Prelude.{◌≡◌, ◌⊎◌, ℕ, ◌≤◌, false, List, [], ◌∷◌, ◌++◌, Option, Some, None, IsSome}
use Rattle.std.specs.FinMap.{get}
use mathlib.Core.List.{IsPrefix}
use Rattle.dk_types.specs.Faults.{HasRisen}
use Rattle.dk_types.specs.declared.number.ConnNo.{ConnNo}
use Rattle.dk_types.specs.declared.event.Event.{Event}
use Rattle.dk_types.specs.declared.event.Event.TheVariants as event
use Rattle.dk_model.specs.Legal.{Opened, world_after}
use Rattle.dk_model.specs.Worlds.{Connection}
use Rattle.dk_turn.specs.Fronts.{Known}
use Rattle.dk_pump.specs.declared.course.Course.{Course}
use Rattle.dk_pump.specs.Sessions.{LinkState}

-- after these events the connection is there, and no message waits for it
pub record HasEmptyOutbox (o : Opened) (conn : ConnNo) (events : List Event) : Type 0 where
  pub connection : Connection
  pub there : get (world_after o events).connections conn ≡ Some connection
  pub empty : connection.outbox ≡ []

-- between these two fronts the pass came to one at which the connection is there with an empty outbox, by a Hand of its own
pub record FindsNothing (o : Opened) (pass : ℕ) (conn : ConnNo) (old new : List Event) : Type 0 where
  pub before : List Event
  pub most : ℕ
  pub begins : IsPrefix old before
  pub seen : IsPrefix (before ++ event.Hand pass conn most [] false ∷ []) new
  pub nothing : HasEmptyOutbox o conn (before ++ event.Hand pass conn most [] false ∷ [])

-- the session has no connection, or nothing was found to hand to it
abbrev pub HasNothing : Opened → ℕ → Option ConnNo → List Event → List Event → Type 0
HasNothing o pass None old new = Unit {0}
HasNothing o pass (Some conn) old new = FindsNothing o pass conn old new

-- the link was not ready to take; or reading had ended
abbrev pub WaitsToRead : LinkState → LinkState → Course → Type 0
WaitsToRead link link' course = HasRisen link.take_waits link'.take_waits ⊎ IsSome course.end

-- the link was not ready to put; or there was nothing to hand
abbrev pub WaitsToWrite : Opened → Known Event → LinkState → Known Event → LinkState → Course → Type 0
WaitsToWrite o pass link pass' link' course = HasRisen link.put_waits link'.put_waits ⊎ HasNothing o pass'.number course.conn pass.front pass'.front

-- Between these two moments of a session: the link was not ready to take, or reading had ended on a session that has a connection; and the link was not ready to put, or the connection had nothing to be handed, or there is none.
pub record MayWait (o : Opened) (pass : Known Event) (link : LinkState) (pass' : Known Event) (link' : LinkState) (course : Course) : Type 0 where
  pub reading : HasRisen link.take_waits link'.take_waits ⊎ (IsSome course.end × IsSome course.conn)
  pub writing : WaitsToWrite o pass link pass' link' course

-- the pass has seen more, or as much, and no count of polls has fallen
pub record IsLater (pass : Known Event) (link : LinkState) (pass' : Known Event) (link' : LinkState) : Type 0 where
  pub number : pass'.number ≡ pass.number
  pub front : IsPrefix pass.front pass'.front
  pub takes : link.take_waits ≤ link'.take_waits
  pub puts : link.put_waits ≤ link'.put_waits

-- the connection and both ends are as they were
pub record IsStill (old new : Course) : Type 0 where
  pub conn : new.conn ≡ old.conn
  pub end : new.end ≡ old.end
  pub write : new.write ≡ old.write
