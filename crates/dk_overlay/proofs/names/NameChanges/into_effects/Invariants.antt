use Rattle.std.proofs.Common.{◌≡◌, ◌++◌}
use Rattle.std.specs.FinMap.{entries}
use Rattle.std.specs.Map.{keys_of}
use Rattle.std.specs.Vec.Iter.{into_iter_items}
use Rattle.dk_types.specs.Values.{same_id}
use Rattle.dk_overlay.specs.Picks.{picked, newly_set, taken_away}
use Rattle.dk_overlay.proofs.names.NameChanges.into_effects.Given as goal

-- what was listed, and what is left to list, is all
abbrev pub invariant-loop-name : goal.invariant-loop-name
invariant-loop-name l = record {
  bound : l.effects.bound.items ++ picked (newly_set same_id) (into_iter_items l.name-iterator) ≡ picked (newly_set same_id) (entries l.fn.self);
  unbound : l.effects.unbound.items ++ keys_of (picked taken_away (into_iter_items l.name-iterator)) ≡ keys_of (picked taken_away (entries l.fn.self));
}
