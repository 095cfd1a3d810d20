use Rattle.std.proofs.Common.{sym}
use Rattle.dk_core_tests.specs.Twins.{twins_rules}
use Rattle.dk_core_tests.specs.Lawful.{twins_lawful}
use Rattle.dk_core_tests.proofs.Staying.{beside_then}
use Rattle.dk_core_tests.proofs.between.claim.Goals as goal

pub returns-in-Ok-Some-clause-keeps : goal.returns-in-Ok-Some-clause-keeps
returns-in-Ok-Some-clause-keeps c =
    beside_then twins_rules twins_lawful _ _ _ c.args.held.now (λ e. c.requires.other (sym e)) c.requires.beside (rw c.in-Ok-Some.field-0-is at c.in-Ok-Some.ensures.event).0 c.claim.ensures.ready
