use Rattle.dk_core_tests.proofs.Following.{posted_so}
use Rattle.dk_core_tests.proofs.driving.post.Goals as goal

pub returns : goal.returns
returns g c = posted_so (g.G.Rules.rules c.args._game.now) (g.G.Rules.lawful c.args._game.now) _ _ _ _ c.post.result c.requires.standing c.post.ensures.event
