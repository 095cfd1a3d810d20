use Rattle.dk_laws.proofs.ClaimedOnce.{committed_once}
use Rattle.dk_laws.proofs.histories.each_commit_was_claimed_once.Goals as goal

pub returns : goal.returns
returns c = committed_once
