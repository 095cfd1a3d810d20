use Rattle.std.proofs.Common.{◌≡◌, ◌≤◌, length, map}
use Rattle.std.specs.Vec.Iter.{into_iter_items}
use Rattle.dk_model.specs.Effects.{with_set}
use Rattle.dk_core.specs.Publishing.{stamped_entry}
use Rattle.dk_core.proofs.durable.publish.set_objects.Given as goal

-- what is left to put from here is all from the start, and there is room for it
abbrev pub invariant-loop-id : goal.invariant-loop-id
invariant-loop-id l =
    (with_set (map (stamped_entry l.stamp) (into_iter_items l.id-iterator)) l.objects.objects ≡ with_set (map (stamped_entry l.stamp) (into_iter_items l.initial.id-iterator)) l.fn.objects.objects)
    × (length (into_iter_items l.id-iterator) ≤ l.objects.spare)
