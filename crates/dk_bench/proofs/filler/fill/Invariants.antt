use Rattle.std.proofs.Common.{◌-◌}
use Rattle.dk_txn.specs.Does.{Resumes}
use Rattle.dk_bench.specs.Filling.{fill}
use Rattle.dk_bench.proofs.filler.fill.Given as goal

-- all objects from the start are the rest of them from here
abbrev pub invariant-loop-made : goal.invariant-loop-made
invariant-loop-made g l = Resumes g.V.View.sights l.fn.txn l.txn (fill l.fn.objects) (fill (l.fn.objects - l.made))
