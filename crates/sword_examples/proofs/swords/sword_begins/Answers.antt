use Rattle.sword_examples.proofs.SwordRuns.{sword_begins}
use Rattle.sword_examples.proofs.swords.sword_begins.Goals as goal

pub returns : goal.returns
returns c = sword_begins
