use Rattle.std.proofs.Common.{◌≡◌, ◌≤◌, length, map}
use Rattle.std.specs.Vec.Iter.{into_iter_items}
use Rattle.dk_model.specs.Keys.{key_cmp}
use Rattle.dk_model.specs.Effects.{task_of}
use Rattle.dk_recover.specs.Changes.{with_put}
use Rattle.dk_recover.proofs.tasks.add_all.Given as goal

-- what is left to put from here is all from the start, and there is room for it
abbrev pub invariant-loop-task : goal.invariant-loop-task
invariant-loop-task l =
    (with_put key_cmp (map task_of (into_iter_items l.task-iterator)) l.tasks.entries ≡ with_put key_cmp (map task_of (into_iter_items l.initial.task-iterator)) l.fn.tasks.entries)
    × (length (into_iter_items l.task-iterator) ≤ l.tasks.spare)
