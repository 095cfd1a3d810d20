use Rattle.dk_workers.specs.Working.{RepresentsSome}
use Rattle.dk_demo_tests.proofs.driving.hand_all.Given as goal

-- the core stands for a history of the game's rules
abbrev pub invariant-loop-conn : goal.invariant-loop-conn
invariant-loop-conn g l = RepresentsSome (g.G.Rules.rules l.game) l.core
