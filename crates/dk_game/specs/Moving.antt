-- What a job does to its own task.
use Rattle.std.specs.Prelude.{◌≡◌, ℕ, Some, Result}
use Rattle.dk_types.specs.declared.number.TaskKey.{TaskKey}
use Rattle.dk_types.specs.declared.item.Item.TheVariants as ask
use Rattle.dk_types.specs.declared.job.Job.{Job}
use Rattle.dk_types.specs.declared.job.Job.TheVariants as job
use Rattle.dk_types.specs.declared.fault.AppFault.{AppFault}
use Rattle.dk_model.specs.DurableWorlds.{DurableWorld, Agrees}
use Rattle.dk_overlay.specs.Asked.{IsAsked}
use Rattle.dk_txn.specs.Knowing.{OwnIsAsked}
use Rattle.dk_overlay.specs.ReadsAndWrites.{ReadsAndWrites}
use Rattle.dk_txn.specs.Does.{Every, Only, outcome_of_result}
use Rattle.dk_game.specs.declared.halt.Halt.{Halt}
use Rattle.dk_game.specs.Halted.{halt_fault}

-- which tasks a run of the job may move, and from which due moment: its own, from the job's, and no other
abbrev pub MayMove : Job → TaskKey → ℕ → Type 0
MayMove (job.Task key due period kind arg) = Only key due
MayMove job.Initialize = Every
MayMove (job.Login conn name) = Every
MayMove (job.Message conn name body) = Every
MayMove (job.Channel conn name channel body) = Every
MayMove (job.Disconnect conn name graceful) = Every

-- a run that tells how it ended has asked whether the task is pending
abbrev pub AsksTask : TaskKey → ReadsAndWrites → Result (Unit {0}) Halt → Type 0
AsksTask key t r = (end : Result (Unit {0}) AppFault) → outcome_of_result halt_fault r ≡ Some end → (d : DurableWorld) → Agrees d t.reads → IsAsked t.reads (ask.Task key)

-- the same of the job's own task, where it has one
abbrev pub AsksOwn : Job → ReadsAndWrites → Result (Unit {0}) Halt → Type 0
AsksOwn job t r = (end : Result (Unit {0}) AppFault) → outcome_of_result halt_fault r ≡ Some end → (d : DurableWorld) → Agrees d t.reads → OwnIsAsked job t
