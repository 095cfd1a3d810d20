use Rattle.dk_journal.proofs.Readings.{one_reading, one_header}
use Rattle.dk_store_laws.proofs.files.a_file_has_one_reading.Goals as goal

pub returns-clause-payloads : goal.returns-clause-payloads
returns-clause-payloads c = one_reading

pub returns-clause-header : goal.returns-clause-header
returns-clause-header c = one_header
