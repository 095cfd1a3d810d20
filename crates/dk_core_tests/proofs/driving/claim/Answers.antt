use Rattle.dk_workers.proofs.Honest.{entered}
use Rattle.dk_core_tests.proofs.driving.claim.Goals as goal

pub returns-in-Ok-Some-clause-standing : goal.returns-in-Ok-Some-clause-standing
returns-in-Ok-Some-clause-standing g c =
    entered (g.G.Rules.rules c.args._game.now) (g.G.Rules.lawful c.args._game.now) _ _ _ c.requires (rw c.in-Ok-Some.field-0-is at c.in-Ok-Some.ensures.event).0
