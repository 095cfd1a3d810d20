use Rattle.sword_examples.proofs.SwordRuns.{sword_leave}
use Rattle.sword_examples.proofs.swords.sword_leave.Goals as goal

pub returns : goal.returns
returns c = sword_leave
