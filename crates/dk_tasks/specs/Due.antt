-- Which tasks are due, and which of them comes first.
use Rattle.std.specs.Prelude.{◌≡◌, ℕ, ◌&&◌, not, Bool, Option, None, Some, List, map, filter, nat_le}
use Rattle.std.specs.FinMap.{FinMap, entries, get}
use Rattle.dk_types.specs.declared.number.TaskKey.{TaskKey}
use Rattle.dk_types.specs.declared.job.Job.{Job}
use Rattle.dk_model.specs.Keys.{key_cmp}
use Rattle.dk_model.specs.DurableWorlds.{Task}
use Rattle.dk_model.specs.Worlds.{World}
use Rattle.dk_model.specs.Picks.{least, is_sooner, is_claimed, is_task_of, mapped, task_job}
use Rattle.dk_tasks.specs.Tasks.{Kept, bare, durable_tasks}

-- a task that no claimed run has, and whose due moment is at most `at`
abbrev pub is_due : ℕ → TaskKey × Kept → Bool
is_due at e = nat_le e.1.task.due at && not e.1.claimed

-- the due tasks in the order of their keys
abbrev pub due_tasks : ℕ → FinMap key_cmp Kept → List (TaskKey × Task)
due_tasks at tasks = map bare (filter (is_due at) (entries tasks))

-- the key of the due task that comes first: by due moment, and then by key
abbrev pub least_due : ℕ → FinMap key_cmp Kept → Option TaskKey
least_due at tasks = mapped (λ e. e.0) (least is_sooner (due_tasks at tasks))

-- a world whose tasks and moment are these, and whose claimed runs have just the tasks that are marked
pub record HasTasks (w : World) (kept : FinMap key_cmp Kept) (at : ℕ) : Type 0 where
  pub tasks : w.durable.tasks ≡ durable_tasks kept
  pub moment : w.moment ≡ at
  pub claims : (key : TaskKey) (t : Kept) → get kept key ≡ Some t → is_claimed (is_task_of key) w ≡ t.claimed

-- the job of the task at a key
abbrev pub job_at : FinMap key_cmp Kept → Option TaskKey → Option Job
job_at tasks None = None
job_at tasks (Some key) = mapped (λ t. task_job (key, t.task)) (get tasks key)
