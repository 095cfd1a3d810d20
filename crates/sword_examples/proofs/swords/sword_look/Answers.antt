use Rattle.sword_examples.proofs.SwordRuns.{sword_look}
use Rattle.sword_examples.proofs.swords.sword_look.Goals as goal

pub returns : goal.returns
returns c = sword_look
