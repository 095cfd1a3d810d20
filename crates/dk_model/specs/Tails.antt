-- The tail of a history: at most one run whose record was begun and whose commit is none of the events.
--
-- The run was validated on the world that the events lead to: each of its reads is what that world answers, so its commit may happen there and do what its job does alone on it. The tail is spoken of as that one event, and a history with its tail is one more history.
use Rattle.std.specs.Prelude.{◌≡◌, ⊤, true, List, [], ◌∷◌, ◌++◌}
use Rattle.dk_types.specs.declared.event.Event.{Event}
use Rattle.dk_model.specs.DurableWorlds.{DurableWorld}
use Rattle.dk_model.specs.Worlds.{World}
use Rattle.dk_model.specs.Events.{Happens}
use Rattle.dk_model.specs.Legal.{Opened, world_after, is_commit}

-- the event is a commit that may happen next
abbrev pub MayCommit : Opened → List Event → Event → Type 0
MayCommit o events e = (is_commit e ≡ true) × ((after : World) × Happens o.rules (world_after o events) e after)

-- none, or one commit that may happen next
abbrev pub IsTail : Opened → List Event → List Event → Type 0
IsTail o events [] = ⊤
IsTail o events (e ∷ []) = MayCommit o events e
IsTail o events (e ∷ f ∷ more) = ⊥

-- the durable world after some first ones of these events, and so after some first commits, since no other event changes it
pub record IsAfterSome (o : Opened) (events : List Event) (d : DurableWorld) : Type 0 where
  pub front : List Event
  pub later : List Event
  pub parts : events ≡ front ++ later
  pub world : d ≡ (world_after o front).durable

-- WHAT A STOP MAY LEAVE: the durable world after some first commits of the history, or after all of them and then the tail's
abbrev pub IsAfterSomeOrTail : Opened → List Event → List Event → DurableWorld → Type 0
IsAfterSomeOrTail o events tail d = IsAfterSome o (events ++ tail) d
