use Rattle.dk_workers.specs.Working.{RepresentsSome}
use Rattle.dk_bench.proofs.cores.connect_all.Given as goal

abbrev pub invariant-sessions : goal.invariant-sessions
invariant-sessions g l = RepresentsSome (g.G.Rules.rules l.fn.game) l.core
