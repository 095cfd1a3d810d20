use Rattle.dk_laws.proofs.StaleReads.{stale_one}
use Rattle.dk_laws.proofs.retries.the_first_stale_read_is_one.Goals as goal

pub returns : goal.returns
returns c = stale_one
