use Rattle.sword_examples.proofs.SwordRuns.{sword_take}
use Rattle.sword_examples.proofs.swords.sword_take.Goals as goal

pub returns : goal.returns
returns c = sword_take
