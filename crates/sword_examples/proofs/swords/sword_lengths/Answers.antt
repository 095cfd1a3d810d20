use Rattle.sword_examples.proofs.SwordRuns.{sword_lengths}
use Rattle.sword_examples.proofs.swords.sword_lengths.Goals as goal

pub returns : goal.returns
returns c = sword_lengths
