use Rattle.std.proofs.Common.{◌≡◌, drop, map}
use Rattle.dk_model.specs.Effects.{with_set}
use Rattle.dk_core.specs.Publishing.{stamped_entry, unclaimed_entry, objects_restamped, names_restamped, tasks_restamped}
use Rattle.dk_core.proofs.durable.publish.restamp.Given as goal

-- what is left to do from here is all from the start, once the effects are made
abbrev pub invariant-loop-item : goal.invariant-loop-item
invariant-loop-item l =
    (objects_restamped l.stamp (drop l.item-index l.items) (with_set (map (stamped_entry l.stamp) l.effects.written) l.objects.objects)
    ≡ objects_restamped l.stamp l.items (with_set (map (stamped_entry l.stamp) l.effects.written) l.fn.objects.objects))
    × (names_restamped l.stamp (drop l.item-index l.items) l.names.names ≡ names_restamped l.stamp l.items l.fn.names.names)
    × (tasks_restamped l.stamp (drop l.item-index l.items) (with_set (map (unclaimed_entry l.stamp) l.effects.added) l.tasks.tasks)
    ≡ tasks_restamped l.stamp l.items (with_set (map (unclaimed_entry l.stamp) l.effects.added) l.fn.tasks.tasks))
    × (l.objects.spare ≡ l.fn.objects.spare) × (l.names.spare ≡ l.fn.names.spare) × (l.tasks.spare ≡ l.fn.tasks.spare)
