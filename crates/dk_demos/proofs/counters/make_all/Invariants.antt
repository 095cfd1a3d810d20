use Rattle.std.proofs.Common.{◌-◌}
use Rattle.dk_txn.specs.Does.{Resumes}
use Rattle.dk_demos.specs.CountersRules.{make_from}
use Rattle.dk_demos.proofs.counters.make_all.Given as goal

-- all counters from the start are the rest of them from here
abbrev pub invariant-loop-number : goal.invariant-loop-number
invariant-loop-number g l = Resumes g.V.View.sights l.fn.txn l.txn (make_from 0 16) (make_from l.number (16 - l.number))
