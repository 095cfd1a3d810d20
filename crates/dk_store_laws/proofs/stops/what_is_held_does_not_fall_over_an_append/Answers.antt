use Rattle.dk_store_laws.proofs.Stopped.{entries_held}
use Rattle.dk_store_laws.proofs.stops.what_is_held_does_not_fall_over_an_append.Goals as goal

pub returns : goal.returns
returns c = entries_held
