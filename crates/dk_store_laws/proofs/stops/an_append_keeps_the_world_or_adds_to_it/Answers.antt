use Rattle.dk_store_laws.proofs.Stopped.{entries_appended}
use Rattle.dk_store_laws.proofs.stops.an_append_keeps_the_world_or_adds_to_it.Goals as goal

pub returns : goal.returns
returns c = entries_appended
