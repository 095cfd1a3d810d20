-- The room that a commit needs.
use Rattle.std.specs.Prelude.{◌≤◌, ℕ, length, max}
use Rattle.dk_types.specs.declared.durable.Effects.{Effects}
use Rattle.dk_core.specs.StampedWorlds.{Room}

-- this many more objects, as many names and as many tasks fit without memory
pub record HasPlaces (room : Room) (places : ℕ) : Type 0 where
  pub objects : places ≤ room.objects
  pub names : places ≤ room.names
  pub tasks : places ≤ room.tasks

-- how many places of each kind there have to be for all that the effects put there
abbrev pub places_of : Effects → ℕ
places_of e = max (max (length e.written) (length e.bound)) (length e.added)

-- there is room for all that the effects put there
pub record HasRoom (room : Room) (e : Effects) : Type 0 where
  pub objects : length e.written ≤ room.objects
  pub names : length e.bound ≤ room.names
  pub tasks : length e.added ≤ room.tasks

-- no room is less
pub record IsNoLess (old new : Room) : Type 0 where
  pub objects : old.objects ≤ new.objects
  pub names : old.names ≤ new.names
  pub tasks : old.tasks ≤ new.tasks
