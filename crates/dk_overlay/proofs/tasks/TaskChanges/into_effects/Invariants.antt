use Rattle.std.proofs.Common.{◌≡◌, ◌++◌, map}
use Rattle.std.specs.FinMap.{entries}
use Rattle.std.specs.Map.{keys_of}
use Rattle.std.specs.Vec.Iter.{into_iter_items}
use Rattle.dk_types.specs.Values.{pending_of}
use Rattle.dk_overlay.specs.Picks.{picked, task_added, task_dropped, task_moved}
use Rattle.dk_overlay.proofs.tasks.TaskChanges.into_effects.Given as goal

-- what was listed, and what is left to list, is all
abbrev pub invariant-loop-key : goal.invariant-loop-key
invariant-loop-key l = record {
  added : l.effects.added.items ++ map pending_of (picked task_added (into_iter_items l.key-iterator)) ≡ map pending_of (picked task_added (entries l.fn.self));
  dropped : l.effects.dropped.items ++ keys_of (picked task_dropped (into_iter_items l.key-iterator)) ≡ keys_of (picked task_dropped (entries l.fn.self));
  requeued : l.effects.requeued.items ++ picked task_moved (into_iter_items l.key-iterator) ≡ picked task_moved (entries l.fn.self);
}
