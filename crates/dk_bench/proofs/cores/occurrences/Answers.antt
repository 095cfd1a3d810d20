use Rattle.dk_workers.proofs.Honest.{entered}
use Rattle.dk_bench.proofs.cores.occurrences.Goals as goal

pub serve-requires : goal.serve-requires
serve-requires g c = entered (g.G.Rules.rules c.args.game.now) (g.G.Rules.lawful c.args.game.now) _ _ _ c.moments.invariant (c.tick.ensures.event 0)
