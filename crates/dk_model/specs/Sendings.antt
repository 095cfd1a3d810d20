-- How many messages a step of a run sends at most, and that it leaves the tasks alone.
use Rattle.std.specs.Prelude.{◌≡◌, ℕ, ◌+◌, ◌≤◌, length}
use Rattle.dk_types.specs.declared.job.Job.{Job}
use Rattle.dk_model.specs.Runs.{Run, Act}

-- a step sends at most so many messages, and leaves the tasks as they are
pub record SendsAtMost {A : Type 0} (most : ℕ) (act : Act A) : Type 0 where
  pub bound : (s : Run) → length ((act s).1.outs) ≤ length s.outs + most
  pub tasks : (s : Run) → (act s).1.world.tasks ≡ s.world.tasks

-- a game that in each job sends at most one message, and schedules and cancels no task
abbrev pub SendsOneAtMost : (Job → Act (Unit {0})) → Type 0
SendsOneAtMost rules = (job : Job) → SendsAtMost 1 (rules job)
