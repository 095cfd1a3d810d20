use Rattle.dk_core_tests.proofs.Following.{refused_so}
use Rattle.dk_core_tests.proofs.driving.commit_stale.Goals as goal

pub returns-clause-standing : goal.returns-clause-standing
returns-clause-standing g c = (refused_so (g.G.Rules.rules c.args._game.now) _ _ c.args.claimed c.args.finished _ _ c.in-Err.ensures c.requires.standing).0

pub returns-clause-granted : goal.returns-clause-granted
returns-clause-granted g c = (refused_so (g.G.Rules.rules c.args._game.now) _ _ c.args.claimed c.args.finished _ _ c.in-Err.ensures c.requires.standing).1
