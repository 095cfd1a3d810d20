use Rattle.std.proofs.Common.{take}
use Rattle.dk_model.specs.Effects.{list_length, pending_length}
use Rattle.dk_txn.specs.Counting.{Counts}
use Rattle.dk_txn.proofs.sizes.tasks_bytes.Given as goal

-- the items so far are counted
abbrev pub invariant-loop-task : goal.invariant-loop-task
invariant-loop-task l = Counts l.bytes (list_length pending_length (take l.task-index l.tasks))
