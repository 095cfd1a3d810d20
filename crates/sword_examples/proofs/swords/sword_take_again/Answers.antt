use Rattle.sword_examples.proofs.SwordRuns.{sword_take_again}
use Rattle.sword_examples.proofs.swords.sword_take_again.Goals as goal

pub returns : goal.returns
returns c = sword_take_again
