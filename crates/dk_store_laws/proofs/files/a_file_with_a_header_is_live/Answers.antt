use Rattle.dk_journal.proofs.Seen.{live}
use Rattle.dk_store_laws.proofs.files.a_file_with_a_header_is_live.Goals as goal

pub returns : goal.returns
returns c = live
