use Rattle.dk_journal.proofs.Readings.{front_reads}
use Rattle.dk_store_laws.proofs.files.bytes_behind_the_gate_do_not_count.Goals as goal

pub returns : goal.returns
returns c = front_reads
