use Rattle.dk_workers.proofs.Honest.{entered}
use Rattle.dk_bench.proofs.cores.connect_all.Goals as goal

pub sessions-preserved : goal.sessions-preserved
sessions-preserved g c = entered (g.G.Rules.rules c.args.game.now) (g.G.Rules.lawful c.args.game.now) _ _ _ c.sessions.invariant (c.in-Ok.ensures.event 0)
