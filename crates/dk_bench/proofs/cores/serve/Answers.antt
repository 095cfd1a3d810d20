use Rattle.dk_workers.proofs.Honest.{standing_then}
use Rattle.dk_bench.proofs.cores.serve.Goals as goal

pub jobs-preserved : goal.jobs-preserved
jobs-preserved g c = standing_then (g.G.Rules.rules c.args.game.now) _ _ _ c.jobs.invariant c.in-Ok-Ran.ensures

pub returns-in-Ok : goal.returns-in-Ok
returns-in-Ok g c = standing_then (g.G.Rules.rules c.args.game.now) _ _ _ c.jobs.invariant c.in-Ok.ensures
