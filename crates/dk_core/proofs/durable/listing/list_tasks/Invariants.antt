use Rattle.std.proofs.Common.{◌≡◌, ◌++◌, map}
use Rattle.std.specs.Vec.Iter.{into_iter_items}
use Rattle.dk_core.proofs.durable.listing.list_tasks.Given as goal

-- what is listed, and what is left, are all
abbrev pub invariant-loop-task : goal.invariant-loop-task
invariant-loop-task l = l.list.items ++ map (λ task. task.now) (into_iter_items l.task-iterator) ≡ map (λ task. task.now) (into_iter_items l.initial.task-iterator)
