use Rattle.std.proofs.Common.{◌≡◌, ◌≤◌, length, map}
use Rattle.std.specs.Vec.Iter.{into_iter_items}
use Rattle.dk_model.specs.Effects.{with_set}
use Rattle.dk_core.specs.Publishing.{stamped_entry}
use Rattle.dk_core.proofs.durable.publish.bind_names.Given as goal

-- what is left to put from here is all from the start, and there is room for it
abbrev pub invariant-loop-name : goal.invariant-loop-name
invariant-loop-name l =
    (with_set (map (stamped_entry l.stamp) (into_iter_items l.name-iterator)) l.names.names ≡ with_set (map (stamped_entry l.stamp) (into_iter_items l.initial.name-iterator)) l.fn.names.names)
    × (length (into_iter_items l.name-iterator) ≤ l.names.spare)
