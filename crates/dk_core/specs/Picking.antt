-- Which job a claim takes.
use Rattle.std.specs.Prelude.{◌≡◌, Option, None, Some, true}
use Rattle.std.specs.FinMap.{get, contains_key}
use Rattle.dk_types.specs.declared.job.Job.{Job}
use Rattle.dk_types.specs.declared.job.Job.TheVariants as job
use Rattle.dk_model.specs.Picks.{first_of_list, first_runs, pick, pick_input, pick_task}
use Rattle.dk_tasks.specs.Due as due
use Rattle.dk_connections.specs.Ready.{first_at, IsReadyAt}
use Rattle.dk_core.specs.declared.choice.Choice.{Choice}
use Rattle.dk_core.specs.declared.choice.Choice.TheVariants as choose
use Rattle.dk_core.specs.declared.world.Core.{Core}
use Rattle.dk_core.specs.Cores.{world_of, IsTracked}

-- the job that is chosen
abbrev pub job_of : Core → Option Choice → Option Job
job_of c None = None
job_of c (Some choose.First) = Some job.Initialize
job_of c (Some (choose.Task key)) = due.job_at c.world.tasks (Some key)
job_of c (Some (choose.Input conn)) = first_at conn (get c.connections.connections conn)

-- what is chosen is there
abbrev pub IsThere : Core → Choice → Type 0
IsThere c choose.First = Unit {0}
IsThere c (choose.Task key) = contains_key c.world.tasks key ≡ true
IsThere c (choose.Input conn) = IsReadyAt (get c.connections.connections conn)

-- the marks of the core tell what is claimed
abbrev pub AreMarks : Core → Type 0
AreMarks c = IsTracked (world_of c) c.connections.connections c.world.tasks

-- the choice is the one that the definitions make
abbrev pub IsPick : Core → Option Choice → Type 0
IsPick c choice = AreMarks c → pick (world_of c) ≡ job_of c choice

-- the same of a due task alone, of an input alone, and of the first run
abbrev pub IsDueTask : Core → Option Choice → Type 0
IsDueTask c choice = AreMarks c → pick_task (world_of c) ≡ job_of c choice

-- where the marks are right, the choice is the input that the model picks
abbrev pub IsReadyInput : Core → Option Choice → Type 0
IsReadyInput c choice = AreMarks c → pick_input (world_of c) ≡ job_of c choice

-- where the marks are right, the choice is the run that the model picks before the first commit
abbrev pub IsFirstRun : Core → Option Choice → Type 0
IsFirstRun c choice = c.world.commits ≡ 0 → AreMarks c → first_of_list (first_runs (world_of c)) ≡ job_of c choice
