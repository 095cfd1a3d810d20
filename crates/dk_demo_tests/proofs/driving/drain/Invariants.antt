use Rattle.dk_workers.specs.Working.{RepresentsSome}
use Rattle.dk_demo_tests.proofs.driving.drain.Given as goal

-- the core stands for a history of the game's rules
abbrev pub invariant-loop-job : goal.invariant-loop-job
invariant-loop-job g l = RepresentsSome (g.G.Rules.rules l.game) l.core
