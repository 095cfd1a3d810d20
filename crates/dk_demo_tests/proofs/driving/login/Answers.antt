use Rattle.dk_workers.proofs.Honest.{entered}
use Rattle.dk_demo_tests.proofs.driving.login.Goals as goal

pub returns : goal.returns
returns g c = entered (g.G.Rules.rules c.args._game.now) (g.G.Rules.lawful c.args._game.now) _ _ _ c.requires (c.in-Ok.ensures.event 0)
