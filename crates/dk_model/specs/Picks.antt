-- Which jobs can be run, and which of them a claim takes.
use Rattle.std.specs.Prelude.{ℕ, ◌&&◌, ◌==◌, not, Bool, true, false, Option, Some, None, List, [], ◌∷◌, ◌++◌, map, filter, nat_lt, nat_le, nat_eq, if◌then◌else◌}
use Rattle.std.specs.List.{list_any, filter_map}
use Rattle.std.specs.Ordering.{is_lt, is_eq, nat_cmp, ordering_then}
use Rattle.std.specs.FinMap.{entries, values}
use Rattle.dk_types.specs.declared.number.ConnNo.{ConnNo}
use Rattle.dk_types.specs.declared.number.TaskKey.{TaskKey}
use Rattle.dk_types.specs.declared.job.Job.{Job}
use Rattle.dk_types.specs.declared.job.Job.TheVariants as job
use Rattle.dk_types.specs.declared.job.Input.TheVariants as input
use Rattle.dk_model.specs.declared.waiting.Waiting.{Waiting}
use Rattle.dk_model.specs.declared.waiting.Waiting.TheVariants as waits
use Rattle.dk_model.specs.Keys.{key_cmp}
use Rattle.dk_model.specs.DurableWorlds.{Task}
use Rattle.dk_model.specs.Worlds.{World, Connection}

-- whether a job is the one that makes the world
abbrev pub is_initialize : Job → Bool
is_initialize job.Initialize = true
is_initialize _ = false

-- whether the job is an input of this connection
abbrev pub is_of : ConnNo → Job → Bool
is_of conn (job.Login c name) = nat_eq c.0 conn.0
is_of conn (job.Message c name body) = nat_eq c.0 conn.0
is_of conn (job.Channel c name channel body) = nat_eq c.0 conn.0
is_of conn (job.Disconnect c name graceful) = nat_eq c.0 conn.0
is_of conn job.Initialize = false
is_of conn (job.Task key due period kind arg) = false

-- whether the job is the occurrence of this task
abbrev pub is_task_of : TaskKey → Job → Bool
is_task_of key (job.Task k due period kind arg) = is_eq (key_cmp k key)
is_task_of key _ = false

-- whether some claimed run's job passes
abbrev pub is_claimed : (Job → Bool) → World → Bool
is_claimed p w = list_any (λ claim. p claim.job) (values w.claims)

-- the job of what waits at a connection
abbrev pub job_of : ConnNo → List ℕ → Waiting → Job
job_of conn name waits.Login = job.Login conn name
job_of conn name (waits.Input (input.Message body)) = job.Message conn name body
job_of conn name (waits.Input (input.Channel channel body)) = job.Channel conn name channel body
job_of conn name (waits.Input (input.Disconnect graceful)) = job.Disconnect conn name graceful

-- the job of the first input that waits, if one does
abbrev pub first_job : ConnNo → List ℕ → List Waiting → Option Job
first_job conn name [] = None
first_job conn name (x ∷ queue) = Some (job_of conn name x)

-- a job that can be run, and its turn among the inputs
pub record Turn : Type 0 where
  pub turn : ℕ
  pub job : Job

-- a job with its turn, if there is one
abbrev pub turn_of : ℕ → Option Job → Option Turn
turn_of turn None = None
turn_of turn (Some job) = Some (record { turn = turn; job = job })

-- a connection's first input, where none of its inputs is claimed
abbrev pub input_of : World → ConnNo × Connection → Option Turn
input_of w e = if is_claimed (is_of e.0) w then None else turn_of e.1.turn (first_job e.0 e.1.name e.1.queue)

-- the first inputs that can be run, in the order of their connections
abbrev pub inputs : World → List Turn
inputs w = filter_map (input_of w) (entries w.connections)

-- a pending task as a job
abbrev pub task_job : TaskKey × Task → Job
task_job e = job.Task e.0 e.1.due e.1.period e.1.kind e.1.arg

-- a task whose due moment has come, and which is not claimed
abbrev pub is_due : World → TaskKey × Task → Bool
is_due w e = nat_le e.1.due w.moment && not (is_claimed (is_task_of e.0) w)

-- the tasks that are due and not claimed
abbrev pub due_tasks : World → List (TaskKey × Task)
due_tasks w = filter (is_due w) (entries w.durable.tasks)

-- before the first commit the first run alone
abbrev pub first_runs : World → List Job
first_runs w = if is_claimed is_initialize w then [] else job.Initialize ∷ []

-- all jobs that can be run now
abbrev pub runnable : World → List Job
runnable w = if w.durable.commits == 0 then first_runs w else map task_job (due_tasks w) ++ map (λ t. t.job) (inputs w)

-- the one that comes before the other, if both are there
abbrev pub lesser : {A : Type 0} → (A → A → Bool) → A → Option A → Option A
lesser before x None = Some x
lesser before x (Some y) = if before y x then Some y else Some x

-- the first of those that none is before
abbrev pub least : {A : Type 0} → (A → A → Bool) → List A → Option A
least before [] = None
least before (x ∷ xs) = lesser before x (least before xs)

-- by due moment, and then by key
abbrev pub is_sooner : TaskKey × Task → TaskKey × Task → Bool
is_sooner a b = is_lt (ordering_then (nat_cmp a.1.due b.1.due) (key_cmp a.0 b.0))

-- whether one turn comes before another
abbrev pub is_earlier : Turn → Turn → Bool
is_earlier a b = nat_lt a.turn b.turn

-- what is there, changed
abbrev pub mapped : {A B : Type 0} → (A → B) → Option A → Option B
mapped f None = None
mapped f (Some x) = Some (f x)

-- the first if it is there, else the second
abbrev pub or_else : {A : Type 0} → Option A → Option A → Option A
or_else None b = b
or_else (Some a) b = Some a

-- the task that is to be run first
abbrev pub pick_task : World → Option Job
pick_task w = mapped task_job (least is_sooner (due_tasks w))

-- the input that is to be run first
abbrev pub pick_input : World → Option Job
pick_input w = mapped (λ t. t.job) (least is_earlier (inputs w))

-- the first of a list, if it has one
abbrev pub first_of_list : {A : Type 0} → List A → Option A
first_of_list [] = None
first_of_list (x ∷ xs) = Some x

-- the first run; else a due task, the soonest, unless the last claim was of a task and an input waits; among inputs the one of the least turn
abbrev pub pick : World → Option Job
pick w =
    if w.durable.commits == 0 then first_of_list (first_runs w)
    else if w.after_task then or_else (pick_input w) (pick_task w)
    else or_else (pick_task w) (pick_input w)
