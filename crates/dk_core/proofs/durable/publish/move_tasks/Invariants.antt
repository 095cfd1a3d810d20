use Rattle.std.proofs.Common.{◌≡◌, drop}
use Rattle.dk_core.specs.Publishing.{with_due_at}
use Rattle.dk_core.proofs.durable.publish.move_tasks.Given as goal

-- what is left to do from here is all from the start
abbrev pub invariant-loop-key : goal.invariant-loop-key
invariant-loop-key l = with_due_at (drop l.key-index l.requeued) l.tasks.tasks ≡ with_due_at l.requeued l.fn.tasks.tasks
