use Rattle.sword_examples.proofs.SwordRuns.{sword_look_in_other_letters}
use Rattle.sword_examples.proofs.swords.sword_look_in_other_letters.Goals as goal

pub returns : goal.returns
returns c = sword_look_in_other_letters
