use Rattle.std.proofs.Common.{sym}
use Rattle.dk_core_tests.specs.Twins.{twins_rules}
use Rattle.dk_core_tests.specs.Lawful.{twins_lawful}
use Rattle.dk_core_tests.proofs.Staying.{beside_then}
use Rattle.dk_core_tests.proofs.between.release.Goals as goal

pub returns : goal.returns
returns c = beside_then twins_rules twins_lawful _ _ _ c.args.held.now (λ e. c.requires.other (sym e)) c.requires.beside c.release.ensures.event c.release.ensures.ready
