use Rattle.std.proofs.Common.{◌≡◌, ◌+◌, length, min, ap, subst, arith}
use Rattle.std.proofs.lemmas.List.{take_all}
use Rattle.dk_types.specs.Faults.{COUNT_END}
use Rattle.dk_model.specs.Effects.{list_length, pending_length}
use Rattle.dk_txn.specs.Counting.{Counts}
use Rattle.dk_txn.proofs.Counting.{counts_itself, counts_turn}
use Rattle.dk_txn.proofs.sizes.tasks_bytes.Goals as goal

pub loop-task-init : goal.loop-task-init
loop-task-init c = counts_itself

pub loop-task-preserved : goal.loop-task-preserved
loop-task-preserved c =
    let len = ap length c.as_slice.ensures in
    let sum : c.saturating_add-bytes.result ≡ min (c.loop-task.bytes + pending_length c.task-item.result) COUNT_END = omega (arith, len, c.saturating_add-bytes.ensures) in
    counts_turn pending_length c.args.tasks.now c.loop-task.task-index c.task-item.result c.loop-task.bytes (pending_length c.task-item.result) c.saturating_add-bytes.result c.loop-task-test.true
    (ap pending_length c.task-item.is) sum c.loop-task.invariant

pub returns : goal.returns
returns c = subst (λ l. Counts c.loop-task.bytes (list_length pending_length l)) (take_all c.loop-task.task-index c.args.tasks.now c.loop-task-test.false) c.loop-task.invariant
