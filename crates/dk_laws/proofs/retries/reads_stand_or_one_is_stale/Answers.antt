use Rattle.dk_laws.proofs.StaleReads.{reads_stand}
use Rattle.dk_laws.proofs.retries.reads_stand_or_one_is_stale.Goals as goal

pub returns : goal.returns
returns c = reads_stand
