use Rattle.dk_workers.specs.Working.{RepresentsSome}
use Rattle.dk_bench.proofs.cores.serve.Given as goal

abbrev pub invariant-jobs : goal.invariant-jobs
invariant-jobs g l = RepresentsSome (g.G.Rules.rules l.fn.game) l.core
