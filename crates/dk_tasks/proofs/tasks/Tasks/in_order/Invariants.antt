use Rattle.std.proofs.Common.{◌≡◌, ◌++◌, map}
use Rattle.std.specs.Vec.Iter.{into_iter_items}
use Rattle.dk_tasks.proofs.Walk.{task_behind}
use Rattle.dk_tasks.proofs.tasks.Tasks.in_order.Given as goal

abbrev pub invariant-loop-stored : goal.invariant-loop-stored
invariant-loop-stored l = map (λ task. task.now) l.list.items ++ map task_behind (into_iter_items l.stored-iterator) ≡ map task_behind (into_iter_items l.initial.stored-iterator)
