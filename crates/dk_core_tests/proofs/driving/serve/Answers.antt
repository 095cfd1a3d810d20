use Rattle.dk_workers.proofs.Honest.{standing_then}
use Rattle.dk_core_tests.proofs.driving.serve.Goals as goal

pub returns : goal.returns
returns g c = standing_then (g.G.Rules.rules c.args.game.now) _ _ _ c.requires (rw c.in-Ok-Ran.field-0-is at c.in-Ok-Ran.ensures)
