-- What the reads and writes of a run come to in a world.
use Rattle.std.specs.Prelude.{ℕ, ◌+◌, ◌==◌, if◌then◌else◌}
use Rattle.dk_types.specs.declared.number.TaskKey.{TaskKey}
use Rattle.dk_model.specs.DurableWorlds.{DurableWorld, last_with}
use Rattle.dk_model.specs.Runs.{Run}
use Rattle.dk_model.specs.Steps.{next_due}
use Rattle.dk_overlay.specs.Changes.{value_now, task_now}
use Rattle.dk_overlay.specs.ReadsAndWrites.{ReadsAndWrites, removing_task, moving_task}
use Rattle.dk_txn.specs.Layers.{layered}

-- the run in its midst that they come to, where the world before it is d
abbrev pub current : ReadsAndWrites → DurableWorld → Run
current t d = record {
  world = record {
    objects = layered value_now t.objects d.objects;
    names = layered value_now t.names d.names;
    tasks = layered task_now t.tasks d.tasks;
    commits = d.commits + 1;
    last = last_with d.last t.run;
  };
  touched = t.touched;
  outs = t.outs;
  number = t.run;
  at = t.at;
  objects_made = t.objects_made;
  tasks_made = t.tasks_made;
  mode = t.mode;
}

-- what a run does to its own task, where that is pending: a once-task is taken away, and a periodic one gets its next due moment
abbrev pub passing_own : ReadsAndWrites → TaskKey → ℕ → ℕ → ReadsAndWrites
passing_own t key due period = if period == 0 then removing_task t key else moving_task t key due (next_due due period t.at)
