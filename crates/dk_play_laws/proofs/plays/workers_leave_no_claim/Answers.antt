use Rattle.dk_play_laws.proofs.Worked.{workers_leave}
use Rattle.dk_play_laws.proofs.plays.workers_leave_no_claim.Goals as goal

pub returns : goal.returns
returns c = workers_leave
