-- The host of a figure.
use Rattle.std.specs.Prelude.{None}
use Rattle.dk_types.specs.declared.durable.Durable.{Durable}
use Rattle.dk_model.specs.Events.{Meaning}
use Rattle.dk_model.specs.Legal.{Opened}
use Rattle.dk_core.specs.Listings.{world_of}

-- a host opened for these rules on this world
abbrev pub opened_for : Meaning → Durable → Opened
opened_for rules d = record { rules = rules; durable = world_of d; budget = None }
