use Rattle.sword_examples.proofs.SwordRuns.{sword_login_again}
use Rattle.sword_examples.proofs.swords.sword_login_again.Goals as goal

pub returns : goal.returns
returns c = sword_login_again
