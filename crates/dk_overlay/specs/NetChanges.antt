-- What the changes of a run come to.
use Rattle.std.specs.Prelude.{map}
use Rattle.std.specs.FinMap.{FinMap, entries}
use Rattle.std.specs.Map.{keys_of}
use Rattle.dk_types.specs.declared.durable.Effects.{Effects}
use Rattle.dk_types.specs.declared.number.ObjectId.{ObjectId}
use Rattle.dk_types.specs.declared.object.Object.{Object}
use Rattle.dk_types.specs.Names.{bytes_cmp}
use Rattle.dk_types.specs.Keys.{id_cmp, key_cmp}
use Rattle.dk_types.specs.Values.{pending_of, same_object, same_id}
use Rattle.dk_overlay.specs.declared.change.Change.{Change}
use Rattle.dk_overlay.specs.declared.change.TaskChange.{TaskChange}
use Rattle.dk_overlay.specs.ReadsAndWrites.{ReadsAndWrites}
use Rattle.dk_overlay.specs.Picks.{picked, newly_set, taken_away, task_added, task_dropped, task_moved}

-- what changes of objects, names and tasks come to
abbrev pub net_of : FinMap id_cmp (Change Object) → FinMap bytes_cmp (Change ObjectId) → FinMap key_cmp TaskChange → Effects
net_of objects names tasks = record {
  written = picked (newly_set same_object) (entries objects);
  removed = keys_of (picked taken_away (entries objects));
  bound = picked (newly_set same_id) (entries names);
  unbound = keys_of (picked taken_away (entries names));
  added = map pending_of (picked task_added (entries tasks));
  dropped = keys_of (picked task_dropped (entries tasks));
  requeued = picked task_moved (entries tasks);
}

-- the net effects of the changes
abbrev pub net_changes : ReadsAndWrites → Effects
net_changes t = net_of t.objects t.names t.tasks
