-- What a game's rules may do to a run, and every operation of the platform does.
use Rattle.std.specs.Prelude.{◌≡◌, ℕ, ◌≤◌, ◌<◌, All, Some, None, List, ◌++◌, length}
use Rattle.std.specs.List.{AllByRecursion}
use Rattle.std.specs.FinMap.{get}
use Rattle.dk_types.specs.declared.number.RunNo.{RunNo}
use Rattle.dk_types.specs.declared.number.ConnNo.{ConnNo}
use Rattle.dk_types.specs.declared.number.ObjectId.{ObjectId}
use Rattle.dk_types.specs.declared.number.TaskKey.{TaskKey}
use Rattle.dk_types.specs.declared.object.Object.{Object}
use Rattle.dk_types.specs.declared.item.Item.{Item}
use Rattle.dk_types.specs.declared.item.Item.TheVariants as ask
use Rattle.dk_types.specs.declared.job.Job.{Job}
use Rattle.dk_types.specs.declared.job.Job.TheVariants as job
use Rattle.dk_types.specs.declared.job.Input.{Input}
use Rattle.dk_types.specs.declared.job.Input.TheVariants as input
use Rattle.dk_types.specs.declared.job.Out.{Out}
use Rattle.dk_types.specs.declared.event.Event.{Event}
use Rattle.dk_types.specs.declared.event.Event.TheVariants as event
use Rattle.dk_types.specs.declared.limits.TheConstants.{BODY_MOST_BYTES, NUMBERS_END, MOMENT_MOST_MS, OBJECTS_MOST_COUNT, TASKS_MOST_COUNT, MESSAGES_MOST_COUNT}
use Rattle.dk_types.specs.Names.{IsName}
use Rattle.dk_model.specs.DurableWorlds.{Task, task_answer}
use Rattle.dk_model.specs.Validity.{IsValid, IsCommitted, IsNumbered, IsBody, IsTask}
use Rattle.dk_model.specs.Runs.{Run, Act, body_of}

-- none of the items is this one
unfoldable pub Lacks : List Item → Item → Type 0
Lacks items item = AllByRecursion (λ y. y ≡ item → ⊥) items

-- a number of the run's own, counted from the one count up to the other
abbrev pub IsMade : RunNo → ℕ → ℕ → RunNo → ℕ → Type 0
IsMade number from to run k = (run ≡ number) × (from ≤ k) × (k < to)

-- from a to b a run went on, whatever its mode: it kept what is the run's, listed each item whose answer it changed, numbered what it made, and put what it sent behind what was sent before
pub record GoesOn (a b : Run) : Type 0 where
  pub commits : b.world.commits ≡ a.world.commits
  pub last : b.world.last ≡ a.world.last
  pub number : b.number ≡ a.number
  pub at : b.at ≡ a.at
  pub written : List Item
  pub listed : b.touched ≡ a.touched ++ written
  pub objects : (id : ObjectId) → Lacks written (ask.Object id) → get b.world.objects id ≡ get a.world.objects id
  pub names : (name : List ℕ) → Lacks written (ask.Bound name) → get b.world.names name ≡ get a.world.names name
  pub tasks : (key : TaskKey) → Lacks written (ask.Task key) → task_answer (get b.world.tasks key) ≡ task_answer (get a.world.tasks key)
  pub more_objects : a.objects_made ≤ b.objects_made
  pub more_tasks : a.tasks_made ≤ b.tasks_made
  pub new_objects : (id : ObjectId) (object : Object) → get a.world.objects id ≡ None → get b.world.objects id ≡ Some object → IsMade a.number a.objects_made b.objects_made id.run id.k
  pub new_tasks : (key : TaskKey) (task : Task) → get a.world.tasks key ≡ None → get b.world.tasks key ≡ Some task → IsMade a.number a.tasks_made b.tasks_made key.run key.k
  pub sent : List (ConnNo × Out)
  pub behind : b.outs ≡ a.outs ++ sent

-- each task that stands before and after is as it was
abbrev pub LeavesTasks : Run → Run → Type 0
LeavesTasks a b = (key : TaskKey) (before after : Task) → get a.world.tasks key ≡ Some before → get b.world.tasks key ≡ Some after → after ≡ before

-- a message whose body is within its limit, and messages
abbrev pub HasShortBody : Out → Type 0
HasShortBody message = length (body_of message) ≤ BODY_MOST_BYTES

-- each message has a body within its limit
abbrev pub HaveShortBodies : List (ConnNo × Out) → Type 0
HaveShortBodies outs = All (λ o. HasShortBody o.1) outs

-- a run on a valid world, within its limits, whose next numbers nothing has yet
pub record IsFit (s : Run) : Type 0 where
  pub world : IsValid s.world
  pub number : s.number.0 < NUMBERS_END
  pub committed : IsCommitted s.world.last s.number
  pub at : s.at ≤ MOMENT_MOST_MS
  pub few_objects : s.objects_made ≤ OBJECTS_MOST_COUNT
  pub few_tasks : s.tasks_made ≤ TASKS_MOST_COUNT
  pub few_messages : length s.outs ≤ MESSAGES_MOST_COUNT
  pub bodies : HaveShortBodies s.outs
  pub objects : (id : ObjectId) (object : Object) → get s.world.objects id ≡ Some object → id.run ≡ s.number → id.k < s.objects_made
  pub tasks : (key : TaskKey) (task : Task) → get s.world.tasks key ≡ Some task → key.run ≡ s.number → key.k < s.tasks_made

-- whatever the run, it goes on
abbrev pub AlwaysGoesOn : {A : Type 0} → Act A → Type 0
AlwaysGoesOn act = (s : Run) → GoesOn s (act s).1

-- a fit run stays fit, and no task that stands is changed
pub record KeepsFit {A : Type 0} (act : Act A) : Type 0 where
  pub fits : (s : Run) → IsFit s → IsFit (act s).1
  pub leaves : (s : Run) → IsFit s → LeavesTasks s (act s).1

-- a connection's number and login name, within their limits
abbrev pub IsSessionOf : ConnNo → List ℕ → Type 0
IsSessionOf conn name = (conn.0 < NUMBERS_END) × IsName name

-- each field of a job within its limits
abbrev pub IsJob : Job → Type 0
IsJob job.Initialize = Unit {0}
IsJob (job.Login conn name) = IsSessionOf conn name
IsJob (job.Message conn name body) = IsSessionOf conn name × IsBody body
IsJob (job.Channel conn name channel body) = IsSessionOf conn name × IsName channel × IsBody body
IsJob (job.Disconnect conn name graceful) = IsSessionOf conn name
IsJob (job.Task key due period kind arg) = IsNumbered key.run key.k × IsTask (record { due = due; period = period; kind = kind; arg = arg })

-- a job that a game may be given: each field within its limits, but a session's number, which may be any, since a login ends the session of whatever record it finds
abbrev pub IsForGame : Job → Type 0
IsForGame job.Initialize = Unit {0}
IsForGame (job.Login conn name) = IsName name
IsForGame (job.Message conn name body) = IsName name × IsBody body
IsForGame (job.Channel conn name channel body) = IsName name × IsName channel × IsBody body
IsForGame (job.Disconnect conn name graceful) = IsName name
IsForGame (job.Task key due period kind arg) = IsNumbered key.run key.k × IsTask (record { due = due; period = period; kind = kind; arg = arg })

-- each field of an input within its limits
abbrev pub IsInput : Input → Type 0
IsInput (input.Message body) = IsBody body
IsInput (input.Channel channel body) = IsName channel × IsBody body
IsInput (input.Disconnect graceful) = Unit {0}

-- what comes from outside with an event is within its limits
abbrev pub IsWithinLimits : Event → Type 0
IsWithinLimits (event.Connect pass name reply) = IsName name
IsWithinLimits (event.Post pass conn posted reply) = IsInput posted
IsWithinLimits (event.Claim pass reply) = Unit {0}
IsWithinLimits (event.Release pass run) = Unit {0}
IsWithinLimits (event.Commit pass run seq outcome) = Unit {0}
IsWithinLimits (event.Hand pass conn most outs end) = Unit {0}
IsWithinLimits (event.Tick pass moment) = Unit {0}

-- rules that a game may have
pub record AreLawful (rules : Job → Act (Unit {0})) : Type 0 where
  pub goes_on : (job : Job) → AlwaysGoesOn (rules job)
  pub keeps : (job : Job) → IsForGame job → KeepsFit (rules job)
