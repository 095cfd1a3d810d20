use Rattle.std.proofs.Common.{◌≡◌, ◌≤◌, length, map}
use Rattle.std.specs.Vec.Iter.{into_iter_items}
use Rattle.dk_model.specs.Effects.{with_set}
use Rattle.dk_core.specs.Publishing.{unclaimed_entry}
use Rattle.dk_core.proofs.durable.publish.add_tasks.Given as goal

-- what is left to put from here is all from the start, and there is room for it
abbrev pub invariant-loop-task : goal.invariant-loop-task
invariant-loop-task l =
    (with_set (map (unclaimed_entry l.stamp) (into_iter_items l.task-iterator)) l.tasks.tasks ≡ with_set (map (unclaimed_entry l.stamp) (into_iter_items l.initial.task-iterator)) l.fn.tasks.tasks)
    × (length (into_iter_items l.task-iterator) ≤ l.tasks.spare)
