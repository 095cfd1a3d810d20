-- How a worked example is written: a world by its lists, and what a job's run tells of it.
use Rattle.std.specs.Prelude.{◌≡◌, ℕ, Option, List, [], ◌∷◌, Ok, Err}
use Rattle.std.specs.FinMap.{from_entries}
use Rattle.dk_types.specs.declared.number.RunNo.{RunNo}
use Rattle.dk_types.specs.declared.number.ConnNo.{ConnNo}
use Rattle.dk_types.specs.declared.number.ObjectId.{ObjectId}
use Rattle.dk_types.specs.declared.number.TaskKey.{TaskKey}
use Rattle.dk_types.specs.declared.object.Object.{Object}
use Rattle.dk_types.specs.declared.durable.Effects.{Effects}
use Rattle.dk_types.specs.declared.fault.AppFault.TheVariants as fault
use Rattle.dk_types.specs.declared.fault.Outcome.TheVariants as outcome
use Rattle.dk_types.specs.declared.job.Job.{Job}
use Rattle.dk_types.specs.declared.job.Job.TheVariants as job
use Rattle.dk_types.specs.declared.job.Out.TheVariants as out
use Rattle.dk_model.specs.DurableWorlds.{DurableWorld, Task}
use Rattle.dk_model.specs.Runs.{Act, give, and_then, create, schedule, send}
use Rattle.dk_model.specs.Steps.{step}
use Rattle.dk_model.specs.Events.{Meaning}
use Rattle.dk_model.specs.Finishes.{Report, step_report}

-- a run by its number
abbrev pub run : ℕ → RunNo
run n = record { 0 = n }

-- a connection by its number
abbrev pub conn : ℕ → ConnNo
conn n = record { 0 = n }

-- the object with this place among those that the run made
abbrev pub id : ℕ → ℕ → ObjectId
id number k = record { run = run number; k = k }

-- the task with this place among those that the run scheduled
abbrev pub key : ℕ → ℕ → TaskKey
key number k = record { run = run number; k = k }

-- an object by its kind and bytes
abbrev pub object : ℕ → List ℕ → Object
object kind bytes = record { kind = kind; bytes = bytes }

-- a number below 256 in eight bytes, and in four
abbrev pub in_eight : ℕ → List ℕ
in_eight n = 0 ∷ 0 ∷ 0 ∷ 0 ∷ 0 ∷ 0 ∷ 0 ∷ n ∷ []

-- a number below 256 in four bytes
abbrev pub in_four : ℕ → List ℕ
in_four n = 0 ∷ 0 ∷ 0 ∷ n ∷ []

-- rules by which every job accepts
abbrev pub accepting : Job → Act (Unit {0})
accepting job = give (Ok tt)

-- rules by which every job gives up with the code 7
abbrev pub giving_up : Job → Act (Unit {0})
giving_up job = give (Err (fault.Game 7))

-- rules by which every login gives up with the code 7, and every other job accepts
abbrev pub turning_away : Job → Act (Unit {0})
turning_away (job.Login conn name) = give (Err (fault.Game 7))
turning_away _ = give (Ok tt)

-- the task that such rules schedule at the moment 0
abbrev pub made_task : Task
made_task = record { due = 0; period = 0; kind = 1; arg = [] }

-- rules by which every job makes an object, schedules a task and sends a message
abbrev pub making : Job → Act (Unit {0})
making job = and_then (create 7 []) (λ _. and_then (schedule 1 [] 0) (λ _. send (conn 9) (out.Message [])))

-- what a durable world holds, each list in the order of its keys
pub record Lists : Type 0 where
  pub objects : List (ObjectId × Object)
  pub names : List (List ℕ × ObjectId)
  pub tasks : List (TaskKey × Task)

-- the world that holds this, after so many commits, of which the largest run is the last
abbrev pub listed : Lists → ℕ → Option RunNo → DurableWorld
listed l commits last = record {
  objects = from_entries l.objects;
  names = from_entries l.names;
  tasks = from_entries l.tasks;
  commits = commits;
  last = last;
}

-- the lists of the empty world
abbrev pub nothing : Lists
nothing = record { objects = []; names = []; tasks = [] }

-- the effects of a run that changes nothing
abbrev pub no_effects : Effects
no_effects = record { written = []; removed = []; bound = []; unbound = []; added = []; dropped = []; requeued = [] }

-- a run that ends well and does nothing
abbrev pub does_nothing : Report
does_nothing = record { outcome = outcome.Ok; effects = no_effects; touched = []; outs = [] }

-- the job's run on the one world tells this, and leaves the other
pub record Runs (rules : Meaning) (job : Job) (run : RunNo) (at : ℕ) (before : DurableWorld) (told : Report) (after : DurableWorld) : Type 0 where
  pub tells : step_report before (step rules job run at before) ≡ told
  pub leaves : (step rules job run at before).world ≡ after
