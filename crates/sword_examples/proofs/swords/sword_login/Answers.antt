use Rattle.sword_examples.proofs.SwordRuns.{sword_login}
use Rattle.sword_examples.proofs.swords.sword_login.Goals as goal

pub returns : goal.returns
returns c = sword_login
