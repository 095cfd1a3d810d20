use Rattle.std.proofs.Common.{refl}
use Rattle.dk_core_tests.specs.Twins.{twins_rules}
use Rattle.dk_core_tests.specs.Lawful.{twins_lawful}
use Rattle.dk_core_tests.proofs.Staying.{after_any}
use Rattle.dk_core_tests.proofs.between.hand.Goals as goal

pub returns-in-Ok : goal.returns-in-Ok
returns-in-Ok c = after_any twins_rules twins_lawful _ _ c.args.held.now _ (λ pass. refl) c.requires c.in-Ok.ensures.hands c.hand.ensures.ready
