-- What a commit does to the maps of the stores.
use Rattle.std.specs.Prelude.{ℕ, ◌+◌, List, [], ◌∷◌, map}
use Rattle.std.specs.FinMap.{FinMap}
use Rattle.dk_types.specs.declared.number.RunNo.{RunNo}
use Rattle.dk_types.specs.declared.number.TaskKey.{TaskKey}
use Rattle.dk_types.specs.declared.object.Object.{Object}
use Rattle.dk_types.specs.declared.item.Item.{Item}
use Rattle.dk_types.specs.declared.item.Item.TheVariants as ask
use Rattle.dk_types.specs.declared.durable.Pending.{Pending}
use Rattle.dk_types.specs.declared.durable.Effects.{Effects}
use Rattle.dk_types.specs.Keys.{id_cmp, key_cmp}
use Rattle.dk_model.specs.DurableWorlds.{last_with}
use Rattle.dk_model.specs.Effects.{with_set, without_keys, task_of}
use Rattle.dk_objects.specs.StampedObjects as objects
use Rattle.dk_names.specs.Bindings as names
use Rattle.dk_names.specs.Bindings.{StampedNames}
use Rattle.dk_core.specs.StampedWorlds.{Stamped}
use Rattle.dk_tasks.specs.Tasks.{Kept, unclaimed, with_due, with_stamp, changed_at}

-- an entry with a stamp
abbrev pub stamped_entry : {K X : Type 0} → ℕ → K × X → K × (X × ℕ)
stamped_entry stamp e = (e.0, (e.1, stamp))

-- a new task with a stamp, which no run has
abbrev pub unclaimed_entry : ℕ → Pending → TaskKey × Kept
unclaimed_entry stamp p = (p.key, unclaimed (task_of p).1 stamp)

-- tasks with new due moments, one after another
abbrev pub with_due_at : List (TaskKey × ℕ) → FinMap key_cmp Kept → FinMap key_cmp Kept
with_due_at [] tasks = tasks
with_due_at (e ∷ es) tasks = with_due_at es (changed_at (with_due e.1) e.0 tasks)

-- an object gets the stamp where it is the item
abbrev pub object_restamped : ℕ → Item → FinMap id_cmp (Object × ℕ) → FinMap id_cmp (Object × ℕ)
object_restamped stamp (ask.Object id) m = objects.restamped stamp id m
object_restamped stamp (ask.Bound name) m = m
object_restamped stamp (ask.NextAfter after) m = m
object_restamped stamp (ask.Task key) m = m

-- a name gets the stamp where it is the item
abbrev pub name_restamped : ℕ → Item → StampedNames → StampedNames
name_restamped stamp (ask.Object id) m = m
name_restamped stamp (ask.Bound name) m = names.restamped stamp name m
name_restamped stamp (ask.NextAfter after) m = m
name_restamped stamp (ask.Task key) m = m

-- a task gets the stamp where it is the item
abbrev pub task_restamped : ℕ → Item → FinMap key_cmp Kept → FinMap key_cmp Kept
task_restamped stamp (ask.Object id) m = m
task_restamped stamp (ask.Bound name) m = m
task_restamped stamp (ask.NextAfter after) m = m
task_restamped stamp (ask.Task key) m = changed_at (with_stamp stamp) key m

-- the objects among the items get the stamp, one after another
abbrev pub objects_restamped : ℕ → List Item → FinMap id_cmp (Object × ℕ) → FinMap id_cmp (Object × ℕ)
objects_restamped stamp [] m = m
objects_restamped stamp (x ∷ xs) m = objects_restamped stamp xs (object_restamped stamp x m)

-- the names among the items get the stamp, one after another
abbrev pub names_restamped : ℕ → List Item → StampedNames → StampedNames
names_restamped stamp [] m = m
names_restamped stamp (x ∷ xs) m = names_restamped stamp xs (name_restamped stamp x m)

-- the tasks among the items get the stamp, one after another
abbrev pub tasks_restamped : ℕ → List Item → FinMap key_cmp Kept → FinMap key_cmp Kept
tasks_restamped stamp [] m = m
tasks_restamped stamp (x ∷ xs) m = tasks_restamped stamp xs (task_restamped stamp x m)

-- the world with effects made; what they set gets the stamp
abbrev pub published : ℕ → Effects → Stamped → Stamped
published stamp e w = record w {
  objects = without_keys e.removed (with_set (map (stamped_entry stamp) e.written) w.objects);
  names = without_keys e.unbound (with_set (map (stamped_entry stamp) e.bound) w.names);
  tasks = with_due_at e.requeued (without_keys e.dropped (with_set (map (unclaimed_entry stamp) e.added) w.tasks));
}

-- the world after the commit of a run with these effects, which wrote these items
abbrev pub committed : RunNo → Effects → List Item → Stamped → Stamped
committed run e touched w = record (published (w.commits + 1) e w) {
  objects = objects_restamped (w.commits + 1) touched (published (w.commits + 1) e w).objects;
  names = names_restamped (w.commits + 1) touched (published (w.commits + 1) e w).names;
  tasks = tasks_restamped (w.commits + 1) touched (published (w.commits + 1) e w).tasks;
  commits = w.commits + 1;
  last = last_with w.last run;
}
