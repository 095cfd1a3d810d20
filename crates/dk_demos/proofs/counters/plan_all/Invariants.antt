use Rattle.std.proofs.Common.{◌-◌}
use Rattle.dk_txn.specs.Does.{Resumes}
use Rattle.dk_demos.specs.CountersRules.{plan_from}
use Rattle.dk_demos.proofs.counters.plan_all.Given as goal

-- all tasks from the start are the rest of them from here
abbrev pub invariant-loop-before : goal.invariant-loop-before
invariant-loop-before g l = Resumes g.V.View.sights l.fn.txn l.txn (plan_from l.fn.seed 0 l.fn.tasks) (plan_from l.fn.seed l.before (l.fn.tasks - l.before))
