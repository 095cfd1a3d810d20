use Rattle.dk_channel_laws.proofs.LeaveAll.{leave_all_is_each}
use Rattle.dk_channel_laws.proofs.leaving_all_is_leaving_each.Goals as goal

pub returns : goal.returns
returns c = leave_all_is_each
