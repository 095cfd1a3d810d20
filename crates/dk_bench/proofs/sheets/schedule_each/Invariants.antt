use Rattle.std.proofs.Common.{◌-◌}
use Rattle.dk_txn.specs.Does.{Resumes}
use Rattle.dk_bench.specs.Rewriting.{schedule_each}
use Rattle.dk_bench.proofs.sheets.schedule_each.Given as goal

-- all tasks from the start are the rest of them from here
abbrev pub invariant-loop-scheduled : goal.invariant-loop-scheduled
invariant-loop-scheduled g l = Resumes g.V.View.sights l.fn.txn l.txn (schedule_each l.fn.id l.fn.times) (schedule_each l.fn.id (l.fn.times - l.scheduled))
