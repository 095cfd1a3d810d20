-- What a run has read and changed, as contracts see it, and what it comes to in a world.
use Rattle.std.specs.Prelude.{ℕ, ◌+◌, Some, None, List, ◌++◌, ◌∷◌, []}
use Rattle.std.specs.FinMap as map
use Rattle.dk_types.specs.declared.number.RunNo.{RunNo}
use Rattle.dk_types.specs.declared.number.ConnNo.{ConnNo}
use Rattle.dk_types.specs.declared.number.ObjectId.{ObjectId}
use Rattle.dk_types.specs.declared.number.TaskKey.{TaskKey}
use Rattle.dk_types.specs.declared.object.Object.{Object}
use Rattle.dk_types.specs.declared.item.Item.{Item}
use Rattle.dk_types.specs.declared.item.Item.TheVariants as ask
use Rattle.dk_types.specs.declared.item.Read.{Read}
use Rattle.dk_types.specs.declared.job.Out.{Out}
use Rattle.dk_types.specs.Names.{bytes_cmp}
use Rattle.dk_types.specs.declared.mode.Mode.{Mode}
use Rattle.dk_types.specs.declared.mode.Mode.TheVariants.{Platform}
use Rattle.dk_types.specs.Keys.{id_cmp, key_cmp}
use Rattle.dk_overlay.specs.declared.change.Change.{Change}
use Rattle.dk_overlay.specs.declared.change.Scheduled.{Scheduled}
use Rattle.dk_overlay.specs.declared.change.TaskChange.{TaskChange}
use Rattle.dk_overlay.specs.declared.change.TaskChange.TheVariants.{Added}
use Rattle.dk_overlay.specs.Changes.{removing, moving}

-- what a run has read, changed and sent so far
pub record ReadsAndWrites : Type 0 where
  -- in the order in which they were first made
  pub reads : List (Item × Read)
  pub objects : map.FinMap id_cmp (Change Object)
  pub names : map.FinMap bytes_cmp (Change ObjectId)
  pub tasks : map.FinMap key_cmp TaskChange
  pub touched : List Item
  pub outs : List (ConnNo × Out)
  pub run : RunNo
  pub at : ℕ
  pub objects_made : ℕ
  pub tasks_made : ℕ
  pub mode : Mode

-- of a run at its start
abbrev pub nothing_done : RunNo → ℕ → ReadsAndWrites
nothing_done run at = record {
  reads = [];
  objects = map.empty;
  names = map.empty;
  tasks = map.empty;
  touched = [];
  outs = [];
  run = run;
  at = at;
  objects_made = 0;
  tasks_made = 0;
  mode = Platform;
}

-- one more read
abbrev pub reading : ReadsAndWrites → Item → Read → ReadsAndWrites
reading t item read = record t { reads = t.reads ++ (item, read) ∷ [] }

-- one more change of an object, which is listed as written
abbrev pub changing_object : ReadsAndWrites → ObjectId → Change Object → ReadsAndWrites
changing_object t id change = record t { objects = map.insert t.objects id change; touched = t.touched ++ ask.Object id ∷ [] }

-- changes of objects, one after another
abbrev pub changing_objects : ReadsAndWrites → List (ObjectId × Change Object) → ReadsAndWrites
changing_objects t [] = t
changing_objects t (c ∷ changes) = changing_objects (changing_object t c.0 c.1) changes

-- the id of the next object that the run makes
abbrev pub new_id : ReadsAndWrites → ObjectId
new_id t = record { run = t.run; k = t.objects_made }

-- one more object
abbrev pub creating : ReadsAndWrites → Object → ReadsAndWrites
creating t object = changing_object (record t { objects_made = t.objects_made + 1 }) (new_id t) (record { before = None; after = Some object })

-- one more change of a name, which is listed as written
abbrev pub changing_name : ReadsAndWrites → List ℕ → Change ObjectId → ReadsAndWrites
changing_name t name change = record t { names = map.insert t.names name change; touched = t.touched ++ ask.Bound name ∷ [] }

-- one more change of a task, which is listed as written
abbrev pub changing_task : ReadsAndWrites → TaskKey → TaskChange → ReadsAndWrites
changing_task t key change = record t { tasks = map.insert t.tasks key change; touched = t.touched ++ ask.Task key ∷ [] }

-- the key of the next task that the run schedules
abbrev pub new_key : ReadsAndWrites → TaskKey
new_key t = record { run = t.run; k = t.tasks_made }

-- one more task
abbrev pub scheduling : ReadsAndWrites → Scheduled → ReadsAndWrites
scheduling t task = changing_task (record t { tasks_made = t.tasks_made + 1 }) (new_key t) (Added task)

-- a task taken away
abbrev pub removing_task : ReadsAndWrites → TaskKey → ReadsAndWrites
removing_task t key = changing_task t key (removing (map.get t.tasks key))

-- a task with another due moment, which is not listed as written; `from` is the one before the run
abbrev pub moving_task : ReadsAndWrites → TaskKey → ℕ → ℕ → ReadsAndWrites
moving_task t key from to = record t { tasks = map.insert t.tasks key (moving (map.get t.tasks key) from to) }

-- one more message
abbrev pub sending : ReadsAndWrites → ConnNo → Out → ReadsAndWrites
sending t to out = record t { outs = t.outs ++ (to, out) ∷ [] }

-- the same with no changes of objects, names and tasks
abbrev pub without_changes : ReadsAndWrites → ReadsAndWrites
without_changes t = record t { objects = map.empty; names = map.empty; tasks = map.empty }
