use Rattle.dk_workers.proofs.Honest.{standing_then}
use Rattle.dk_core_tests.proofs.rows.take_step.Goals as goal

pub returns-in-Ok : goal.returns-in-Ok
returns-in-Ok g c = standing_then (g.G.Rules.rules c.args.game.now) _ _ _ c.requires c.in-Ok.ensures
