use Rattle.sword_examples.proofs.SwordRuns.{displacing_length}
use Rattle.sword_examples.proofs.swords.displacing_length.Goals as goal

pub returns : goal.returns
returns c = displacing_length
