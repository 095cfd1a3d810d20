use Rattle.std.proofs.Common.{◌≡◌, ◌≤◌, length}
use Rattle.std.specs.Vec.Iter.{into_iter_items}
use Rattle.dk_types.specs.Keys.{id_cmp}
use Rattle.dk_map.specs.AsMap.{map_of}
use Rattle.dk_map.specs.Entries.{IsOrdered}
use Rattle.dk_overlay.specs.Changes.{put_each}
use Rattle.dk_overlay.proofs.objects.put_all.Given as goal

-- what is left to put from here is all from the start, and there is room for it
abbrev pub invariant-loop-id : goal.invariant-loop-id
invariant-loop-id l = record {
  put : put_each (into_iter_items l.id-iterator) (map_of id_cmp l.changes.entries) ≡ put_each (into_iter_items l.initial.id-iterator) (map_of id_cmp l.fn.changes.entries);
  room : length (into_iter_items l.id-iterator) ≤ l.changes.spare;
  ordered : IsOrdered id_cmp l.changes.entries;
}
