use Rattle.dk_image.proofs.Worlds.{next_world}
use Rattle.dk_store_laws.proofs.files.one_more_record_is_its_entries.Goals as goal

pub returns-clause-next : goal.returns-clause-next
returns-clause-next c = next_world
