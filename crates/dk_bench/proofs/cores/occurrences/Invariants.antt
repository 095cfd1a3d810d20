use Rattle.dk_workers.specs.Working.{RepresentsSome}
use Rattle.dk_bench.proofs.cores.occurrences.Given as goal

abbrev pub invariant-moments : goal.invariant-moments
invariant-moments g l = RepresentsSome (g.G.Rules.rules l.fn.game) l.core
