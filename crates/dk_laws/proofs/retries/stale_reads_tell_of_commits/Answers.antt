use Rattle.dk_laws.proofs.StaleReads.{stale_tells}
use Rattle.dk_laws.proofs.retries.stale_reads_tell_of_commits.Goals as goal

pub returns : goal.returns
returns c = stale_tells
