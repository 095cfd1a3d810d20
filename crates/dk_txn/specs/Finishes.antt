-- What a finished run tells.
use Rattle.std.specs.Prelude.{◌≡◌, Result}
use Rattle.dk_types.specs.declared.job.Job.{Job}
use Rattle.dk_types.specs.declared.fault.AppFault.{AppFault}
use Rattle.dk_model.specs.DurableWorlds.{DurableWorld, Agrees}
use Rattle.dk_model.specs.Runs.{begun}
use Rattle.dk_model.specs.Steps.{ended, failed, kept_by}
use Rattle.dk_model.specs.Finishes.{Report, step_report, IsNew, HasOwnTask}
use Rattle.dk_txn.specs.declared.finished.Finished.{Finished}
use Rattle.dk_overlay.specs.ReadsAndWrites.{ReadsAndWrites}
use Rattle.dk_txn.specs.Current.{current}
use Rattle.dk_txn.specs.Knowing.{IsSound, KnowsBefore, MovesStand, MovesOwn, HasTaskLimits, OwnIsAsked}

-- what a finished run tells
abbrev pub report : Finished → Report
report f = record { outcome = f.outcome; effects = f.effects; touched = f.touched.items; outs = f.outs.items }

-- d is a world in which the run may be: it agrees with what was read, no object and no task has the run's number, and the
-- job's own task stands in it as the job says
pub record MayBeIn (t : ReadsAndWrites) (job : Job) (d : DurableWorld) : Type 0 where
  pub agrees : Agrees d t.reads
  pub new : IsNew d t.run
  pub stands : HasOwnTask d job

-- a run as its calls leave it: its changes know what was there before, it asked for its own task, whose moments are
-- within their limits, and moved no other
pub record IsLogOf (t : ReadsAndWrites) (job : Job) : Type 0 where
  pub sound : IsSound t
  pub asked : OwnIsAsked job t
  pub own : MovesOwn job t
  pub fits : HasTaskLimits job

-- in every world in which the run may be, it tells what the definitions tell of a run that comes to this end
abbrev pub TellsEnd : ReadsAndWrites → Job → Result (Unit {0}) AppFault → Finished → Type 0
TellsEnd t job end f = IsLogOf t job → (d : DurableWorld) → MayBeIn t job d → report f ≡ step_report d (ended job d (begun t.run t.at d) (end, current t d))

-- the same of a run that fails
abbrev pub TellsFailed : ReadsAndWrites → Job → AppFault → Finished → Type 0
TellsFailed t job fault f = IsLogOf t job → (d : DurableWorld) → MayBeIn t job d → report f ≡ step_report d (failed job (begun t.run t.at d) fault)

-- in d, k comes to what a failed run keeps of its own task
pub record IsKeptIn (t : ReadsAndWrites) (job : Job) (k : ReadsAndWrites) (d : DurableWorld) : Type 0 where
  pub is : current k d ≡ kept_by job (begun t.run t.at d)
  pub knows : KnowsBefore k d
  pub moves : MovesStand k d

-- the same in every world in which the run may be
abbrev pub IsKept : ReadsAndWrites → Job → ReadsAndWrites → Type 0
IsKept t job k = IsLogOf t job → (d : DurableWorld) → MayBeIn t job d → IsKeptIn t job k d
