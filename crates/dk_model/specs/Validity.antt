-- When a durable world is valid: every field within its limit, and no number above the largest committed run.
use Rattle.std.specs.Prelude.{◌≡◌, ℕ, ◌+◌, ◌^◌, ◌<◌, ◌≤◌, ◌↔◌, Option, Some, None, List, length}
use Rattle.std.specs.Prelude.{All}
use Rattle.std.specs.FinMap.{get}
use Rattle.dk_types.specs.declared.number.RunNo.{RunNo}
use Rattle.dk_types.specs.declared.number.ObjectId.{ObjectId}
use Rattle.dk_types.specs.declared.number.TaskKey.{TaskKey}
use Rattle.dk_types.specs.declared.object.Object.{Object}
use Rattle.dk_types.specs.declared.limits.TheConstants.{BODY_MOST_BYTES, NUMBERS_END, MOMENT_MOST_MS, DELAY_MOST_MS, PERIOD_MOST_MS}
use Rattle.dk_types.specs.Names.{IsName}
use Rattle.dk_model.specs.DurableWorlds.{DurableWorld, Task}

-- bytes of an object or of a task's argument
pub record IsBody (body : List ℕ) : Type 0 where
  pub short : length body ≤ BODY_MOST_BYTES
  pub bytes : All (λ b. b < 256) body

-- a run's number and a place
pub record IsNumbered (run : RunNo) (k : ℕ) : Type 0 where
  pub number : run.0 < NUMBERS_END
  pub place : k < 2 ^ 32

-- an object within its limits
pub record IsObject (object : Object) : Type 0 where
  pub kind : object.kind < 2 ^ 16
  pub body : IsBody object.bytes

-- a task within its limits
pub record IsTask (task : Task) : Type 0 where
  pub due : task.due ≤ MOMENT_MOST_MS + DELAY_MOST_MS
  pub period : task.period ≤ PERIOD_MOST_MS
  pub kind : task.kind < 2 ^ 16
  pub arg : IsBody task.arg

-- the run is at most the largest committed one
abbrev pub IsCommitted : Option RunNo → RunNo → Type 0
IsCommitted None run = ⊥
IsCommitted (Some last) run = run.0 ≤ last.0

-- one more than the largest committed run, or 0 where none is committed
abbrev pub next_of : Option RunNo → ℕ
next_of None = 0
next_of (Some last) = last.0 + 1

-- every key and value within its limits, and made by a committed run
pub record IsValid (d : DurableWorld) : Type 0 where
  pub objects : (id : ObjectId) (object : Object) → get d.objects id ≡ Some object → IsNumbered id.run id.k × IsCommitted d.last id.run × IsObject object
  pub names : (name : List ℕ) (id : ObjectId) → get d.names name ≡ Some id → IsName name × IsNumbered id.run id.k
  pub tasks : (key : TaskKey) (task : Task) → get d.tasks key ≡ Some task → IsNumbered key.run key.k × IsCommitted d.last key.run × IsTask task
  pub last : next_of d.last ≤ NUMBERS_END
  pub commits : d.commits ≤ next_of d.last
  pub begun : (d.commits ≡ 0) ↔ (d.last ≡ None)
