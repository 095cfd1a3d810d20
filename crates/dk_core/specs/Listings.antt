-- A durable world as lists, and the world of such lists.
use Rattle.std.specs.Prelude.{map}
use Rattle.std.specs.FinMap.{empty, entries}
use Rattle.dk_types.specs.declared.durable.Durable.{Durable}
use Rattle.dk_model.specs.DurableWorlds.{DurableWorld}
use Rattle.dk_model.specs.Effects.{with_set, task_of, pending_of}

-- the world of these lists, which are set one after another
abbrev pub world_of : Durable → DurableWorld
world_of d = record { objects = with_set d.objects empty; names = with_set d.names empty; tasks = with_set (map task_of d.tasks) empty; commits = d.commits; last = d.last }

-- the world as lists in order
abbrev pub listed : DurableWorld → Durable
listed d = record { commits = d.commits; last = d.last; objects = entries d.objects; names = entries d.names; tasks = map pending_of (entries d.tasks) }
