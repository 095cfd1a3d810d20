use Rattle.dk_workers.specs.Working.{RepresentsSome}
use Rattle.dk_demo_tests.proofs.driving.play.Given as goal

-- the core stands for a history of the game's rules
abbrev pub invariant-loop-step : goal.invariant-loop-step
invariant-loop-step g l = RepresentsSome (g.G.Rules.rules l.game) l.core
