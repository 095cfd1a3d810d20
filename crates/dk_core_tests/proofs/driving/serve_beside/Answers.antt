use Rattle.dk_workers.proofs.Honest.{standing_then}
use Rattle.dk_core_tests.proofs.Beside.{kept_beside}
use Rattle.dk_core_tests.proofs.driving.serve_beside.Goals as goal

pub returns-clause-standing : goal.returns-clause-standing
returns-clause-standing g c = standing_then (g.G.Rules.rules c.args.game.now) _ _ _ c.requires.standing (rw c.in-Ok-Ran.field-0-is at c.in-Ok-Ran.ensures)

pub returns-clause-granted : goal.returns-clause-granted
returns-clause-granted g c = kept_beside (g.G.Rules.rules c.args.game.now) _ _ _ _ c.args.held.now c.requires.standing (rw c.in-Ok-Ran.field-0-is at c.in-Ok-Ran.ensures) c.requires.granted
