use Rattle.dk_workers.proofs.Honest.{standing_then}
use Rattle.dk_demo_tests.proofs.driving.serve.Goals as goal

pub returns-in-Ok-Ran : goal.returns-in-Ok-Ran
returns-in-Ok-Ran g c = standing_then (g.G.Rules.rules c.args.game.now) _ _ _ c.requires (rw c.in-Ok-Ran.field-0-is at c.in-Ok-Ran.ensures)

pub returns-in-Ok-Idle : goal.returns-in-Ok-Idle
returns-in-Ok-Idle g c = standing_then (g.G.Rules.rules c.args.game.now) _ _ _ c.requires (rw c.in-Ok-Idle.field-0-is at c.in-Ok-Idle.ensures)
