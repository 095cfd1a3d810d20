use Rattle.dk_journal.proofs.Standings.{wins}
use Rattle.dk_journal.proofs.Outranked.{outranks}
use Rattle.dk_store_laws.proofs.stops.a_standing_file_outranks_the_other.Goals as goal

pub returns-clause-outranks : goal.returns-clause-outranks
returns-clause-outranks c = outranks

pub returns-clause-wins : goal.returns-clause-wins
returns-clause-wins c = wins
