use Rattle.sword_examples.proofs.SwordRuns.{sword_dance}
use Rattle.sword_examples.proofs.swords.sword_dance.Goals as goal

pub returns : goal.returns
returns c = sword_dance
