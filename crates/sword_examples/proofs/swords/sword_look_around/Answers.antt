use Rattle.sword_examples.proofs.SwordRuns.{sword_look_around}
use Rattle.sword_examples.proofs.swords.sword_look_around.Goals as goal

pub returns : goal.returns
returns c = sword_look_around
