-- What a finished run tells, when it keeps the law, and when it is honest.
use Rattle.std.specs.Prelude.{◌≡◌, ℕ, Some, None, List}
use Rattle.std.specs.List.{AllByRecursion}
use Rattle.std.specs.FinMap.{get}
use Rattle.dk_types.specs.declared.number.RunNo.{RunNo}
use Rattle.dk_types.specs.declared.number.ConnNo.{ConnNo}
use Rattle.dk_types.specs.declared.number.ObjectId.{ObjectId}
use Rattle.dk_types.specs.declared.number.TaskKey.{TaskKey}
use Rattle.dk_types.specs.declared.item.Item.{Item}
use Rattle.dk_types.specs.declared.item.Read.{Read}
use Rattle.dk_types.specs.declared.job.Job.{Job}
use Rattle.dk_types.specs.declared.job.Job.TheVariants as job
use Rattle.dk_types.specs.declared.job.Out.{Out}
use Rattle.dk_types.specs.declared.fault.Outcome.{Outcome}
use Rattle.dk_types.specs.declared.durable.Effects.{Effects}
use Rattle.dk_types.specs.declared.event.Event.{Event}
use Rattle.dk_model.specs.DurableWorlds.{DurableWorld, Task, Agrees}
use Rattle.dk_model.specs.Validity.{IsValid}
use Rattle.dk_model.specs.Effects.{effects}
use Rattle.dk_model.specs.Steps.{Stepped, step}
use Rattle.dk_model.specs.Worlds.{World}
use Rattle.dk_model.specs.Events.{Meaning}
use Rattle.dk_model.specs.Sights.{IsHonestRead}

-- a run's outcome, net effects, written items and messages
pub record Report : Type 0 where
  pub outcome : Outcome
  pub effects : Effects
  pub touched : List Item
  pub outs : List (ConnNo × Out)

-- what a step from this world tells
abbrev pub step_report : DurableWorld → Stepped → Report
step_report d s = record { outcome = s.outcome; effects = effects d s.world; touched = s.touched; outs = s.outs }

-- no object and no task has this run's number
pub record IsNew (d : DurableWorld) (run : RunNo) : Type 0 where
  pub objects : (id : ObjectId) → id.run ≡ run → get d.objects id ≡ None
  pub tasks : (key : TaskKey) → key.run ≡ run → get d.tasks key ≡ None

-- where the job is an occurrence of a task that is pending, the task stands as the job has it
abbrev pub HasOwnTask : DurableWorld → Job → Type 0
HasOwnTask d (job.Task key due period kind arg) = (task : Task) → get d.tasks key ≡ Some task → task ≡ record { due = due; period = period; kind = kind; arg = arg }
HasOwnTask d job.Initialize = Unit {0}
HasOwnTask d (job.Login conn name) = Unit {0}
HasOwnTask d (job.Message conn name body) = Unit {0}
HasOwnTask d (job.Channel conn name channel body) = Unit {0}
HasOwnTask d (job.Disconnect conn name graceful) = Unit {0}

-- a finished run tells what the job does alone on every world that agrees with what the run has read
pub record KeepsLaw (rules : Meaning) (job : Job) (run : RunNo) (at : ℕ) (reads : List (Item × Read)) (told : Report) : Type 0 where
  pub keeps : (d : DurableWorld) → IsValid d → Agrees d reads → IsNew d run → HasOwnTask d job → told ≡ step_report d (step rules job run at d)

-- it keeps the law, and each of its reads was given at some time since the run was granted
pub record IsHonest (rules : Meaning) (w : World) (events : List Event) (job : Job) (run : RunNo) (at : ℕ) (reads : List (Item × Read)) (told : Report) : Type 0 where
  pub law : KeepsLaw rules job run at reads told
  pub honest : AllByRecursion (λ r. IsHonestRead rules w events run r.0 r.1) reads
