use Rattle.dk_core.proofs.Followed.{spent_keeps}
use Rattle.dk_workers.proofs.Honest.{standing_of}
use Rattle.dk_core_tests.specs.Twins.{twins_rules}
use Rattle.dk_core_tests.specs.Lawful.{twins_lawful}
use Rattle.dk_core_tests.proofs.claim_tests.claim_spent.Goals as goal

pub returns : goal.returns
returns c = spent_keeps _ _ _ _ c.args.held.now (standing_of twins_rules _ twins_lawful c.requires.standing) (rw c.in-Err-Spent.field-0-is at c.in-Err-Spent.ensures.event) c.requires.granted
