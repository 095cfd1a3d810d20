use Rattle.sword_examples.proofs.SwordRuns.{sword_drop_nothing}
use Rattle.sword_examples.proofs.swords.sword_drop_nothing.Goals as goal

pub returns : goal.returns
returns c = sword_drop_nothing
