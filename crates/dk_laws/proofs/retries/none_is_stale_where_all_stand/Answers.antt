use Rattle.dk_laws.proofs.StaleReads.{stale_none}
use Rattle.dk_laws.proofs.retries.none_is_stale_where_all_stand.Goals as goal

pub returns : goal.returns
returns c = stale_none
