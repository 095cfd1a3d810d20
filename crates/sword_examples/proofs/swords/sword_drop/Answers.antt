use Rattle.sword_examples.proofs.SwordRuns.{sword_drop}
use Rattle.sword_examples.proofs.swords.sword_drop.Goals as goal

pub returns : goal.returns
returns c = sword_drop
