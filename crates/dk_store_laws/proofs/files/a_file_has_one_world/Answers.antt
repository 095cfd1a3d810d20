use Rattle.dk_image.proofs.Worlds.{one_world}
use Rattle.dk_checkpoint.proofs.Held.{one_held}
use Rattle.dk_store_laws.proofs.files.a_file_has_one_world.Goals as goal

pub returns-clause-payloads : goal.returns-clause-payloads
returns-clause-payloads c = one_world

pub returns-clause-file : goal.returns-clause-file
returns-clause-file c = one_held
