use Rattle.dk_journal.proofs.Standings.{created}
use Rattle.dk_store_laws.proofs.stops.a_new_file_is_no_store_or_has_the_empty_world.Goals as goal

pub returns : goal.returns
returns c = created
