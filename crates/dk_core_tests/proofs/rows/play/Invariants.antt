use Rattle.dk_workers.specs.Working.{RepresentsSome}
use Rattle.dk_core_tests.proofs.rows.play.Given as goal

abbrev pub invariant-loop-row : goal.invariant-loop-row
invariant-loop-row g l = RepresentsSome (g.G.Rules.rules l.fn.game) l.core
