use Rattle.dk_workers.proofs.Honest.{entered}
use Rattle.dk_core_tests.proofs.driving.connect.Goals as goal

pub returns-in-Ok : goal.returns-in-Ok
returns-in-Ok g c = entered (g.G.Rules.rules c.args._game.now) (g.G.Rules.lawful c.args._game.now) _ _ _ c.requires (c.in-Ok.ensures.event 0)
