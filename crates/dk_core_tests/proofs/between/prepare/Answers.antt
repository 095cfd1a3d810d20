use Rattle.dk_core_tests.specs.Twins.{twins_rules}
use Rattle.dk_core_tests.proofs.Following.{stayed}
use Rattle.dk_core_tests.proofs.between.prepare.Goals as goal

pub returns-in-Ok-clause-beside : goal.returns-in-Ok-clause-beside
returns-in-Ok-clause-beside c = record { standing = stayed twins_rules _ _ c.requires.standing c.prepare.ensures.stays; granted = c.prepare.ensures.granted }
