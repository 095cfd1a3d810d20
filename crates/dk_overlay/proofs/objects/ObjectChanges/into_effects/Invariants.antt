use Rattle.std.proofs.Common.{◌≡◌, ◌++◌}
use Rattle.std.specs.FinMap.{entries}
use Rattle.std.specs.Map.{keys_of}
use Rattle.std.specs.Vec.Iter.{into_iter_items}
use Rattle.dk_types.specs.Values.{same_object}
use Rattle.dk_overlay.specs.Picks.{picked, newly_set, taken_away}
use Rattle.dk_overlay.proofs.objects.ObjectChanges.into_effects.Given as goal

-- what was listed, and what is left to list, is all
abbrev pub invariant-loop-id : goal.invariant-loop-id
invariant-loop-id l = record {
  written : l.effects.written.items ++ picked (newly_set same_object) (into_iter_items l.id-iterator) ≡ picked (newly_set same_object) (entries l.fn.self);
  removed : l.effects.removed.items ++ keys_of (picked taken_away (into_iter_items l.id-iterator)) ≡ keys_of (picked taken_away (entries l.fn.self));
}
