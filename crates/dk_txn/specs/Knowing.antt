-- What the changes of a run know of the world before it.
use Rattle.std.specs.Prelude.{◌≡◌, ℕ, ◌+◌, ◌≤◌, Some, is_some, List}
use Rattle.dk_types.specs.declared.limits.TheConstants.{MOMENT_MOST_MS, DELAY_MOST_MS, PERIOD_MOST_MS}
use Rattle.std.specs.FinMap as map
use Rattle.dk_types.specs.declared.number.ObjectId.{ObjectId}
use Rattle.dk_types.specs.declared.number.TaskKey.{TaskKey}
use Rattle.dk_types.specs.declared.object.Object.{Object}
use Rattle.dk_types.specs.declared.item.Item.TheVariants as ask
use Rattle.dk_types.specs.declared.job.Job.{Job}
use Rattle.dk_types.specs.declared.job.Job.TheVariants as job
use Rattle.dk_model.specs.DurableWorlds.{DurableWorld, Task, Agrees}
use Rattle.dk_model.specs.Finishes.{IsNew}
use Rattle.dk_overlay.specs.declared.change.Change.{Change}
use Rattle.dk_overlay.specs.declared.change.TaskChange.{TaskChange}
use Rattle.dk_overlay.specs.declared.change.TaskChange.TheVariants.{Moved}
use Rattle.dk_overlay.specs.Changes.{stood}
use Rattle.dk_overlay.specs.Asked.{IsAsked}
use Rattle.dk_overlay.specs.ReadsAndWrites.{ReadsAndWrites}

-- each change knows what d had before
pub record KnowsBefore (t : ReadsAndWrites) (d : DurableWorld) : Type 0 where
  pub objects : (id : ObjectId) (c : Change Object) → map.get t.objects id ≡ Some c → c.before ≡ map.get d.objects id
  pub names : (name : List ℕ) (c : Change ObjectId) → map.get t.names name ≡ Some c → c.before ≡ map.get d.names name
  pub tasks : (key : TaskKey) (c : TaskChange) → map.get t.tasks key ≡ Some c → is_some (map.get d.tasks key) ≡ stood c

-- it knows that of every world in which its run may be
pub record IsSound (t : ReadsAndWrites) : Type 0 where
  pub knows : (d : DurableWorld) → Agrees d t.reads → IsNew d t.run → KnowsBefore t d

-- each task that was moved stands in d with the due moment that it was moved from
abbrev pub MovesStand : ReadsAndWrites → DurableWorld → Type 0
MovesStand t d = (key : TaskKey) (from to : ℕ) → map.get t.tasks key ≡ Some (Moved from to) → (task : Task) → map.get d.tasks key ≡ Some task → task.due ≡ from

-- no task was moved but this one, from this due moment
abbrev pub MovesAlone : TaskKey → ℕ → ReadsAndWrites → Type 0
MovesAlone key due t = (k : TaskKey) (from to : ℕ) → map.get t.tasks k ≡ Some (Moved from to) → (k ≡ key) × (from ≡ due)

-- no task was moved but the job's own
abbrev pub MovesOwn : Job → ReadsAndWrites → Type 0
MovesOwn (job.Task key due period kind arg) t = MovesAlone key due t
MovesOwn job.Initialize t = (k : TaskKey) (from to : ℕ) → map.get t.tasks k ≡ Some (Moved from to) → ⊥
MovesOwn (job.Login conn name) t = (k : TaskKey) (from to : ℕ) → map.get t.tasks k ≡ Some (Moved from to) → ⊥
MovesOwn (job.Message conn name body) t = (k : TaskKey) (from to : ℕ) → map.get t.tasks k ≡ Some (Moved from to) → ⊥
MovesOwn (job.Channel conn name channel body) t = (k : TaskKey) (from to : ℕ) → map.get t.tasks k ≡ Some (Moved from to) → ⊥
MovesOwn (job.Disconnect conn name graceful) t = (k : TaskKey) (from to : ℕ) → map.get t.tasks k ≡ Some (Moved from to) → ⊥

-- the run asked whether the job's own task is pending
abbrev pub OwnIsAsked : Job → ReadsAndWrites → Type 0
OwnIsAsked (job.Task key due period kind arg) t = IsAsked t.reads (ask.Task key)
OwnIsAsked job.Initialize t = Unit {0}
OwnIsAsked (job.Login conn name) t = Unit {0}
OwnIsAsked (job.Message conn name body) t = Unit {0}
OwnIsAsked (job.Channel conn name channel body) t = Unit {0}
OwnIsAsked (job.Disconnect conn name graceful) t = Unit {0}

-- a due moment and a period that a task may have
pub record Fits (due period : ℕ) : Type 0 where
  pub due_most : due ≤ MOMENT_MOST_MS + DELAY_MOST_MS
  pub period_most : period ≤ PERIOD_MOST_MS

-- those of the job, where it is a task
abbrev pub HasTaskLimits : Job → Type 0
HasTaskLimits (job.Task key due period kind arg) = Fits due period
HasTaskLimits job.Initialize = Unit {0}
HasTaskLimits (job.Login conn name) = Unit {0}
HasTaskLimits (job.Message conn name body) = Unit {0}
HasTaskLimits (job.Channel conn name channel body) = Unit {0}
HasTaskLimits (job.Disconnect conn name graceful) = Unit {0}
