-- What holds of every history.
use Rattle.std.specs.Prelude.{◌≡◌, ◌⊎◌, ℕ, Bool, true, false, Option, Some, None, List, ◌∷◌, ◌++◌, length, filter, nat_eq}
use Rattle.std.specs.List.{list_any, AllByRecursion}
use Rattle.std.specs.FinMap.{get}
use Rattle.dk_types.specs.declared.number.RunNo.{RunNo}
use Rattle.dk_types.specs.declared.number.ObjectId.{ObjectId}
use Rattle.dk_types.specs.declared.number.TaskKey.{TaskKey}
use Rattle.dk_types.specs.declared.object.Object.{Object}
use Rattle.dk_types.specs.declared.job.Job.{Job}
use Rattle.dk_types.specs.declared.job.Job.TheVariants as job
use Rattle.dk_types.specs.declared.fault.Outcome.{Outcome}
use Rattle.dk_types.specs.declared.event.Event.{Event}
use Rattle.dk_types.specs.declared.event.Event.TheVariants as event
use Rattle.dk_types.specs.declared.event.ConnectReply.TheVariants as connected
use Rattle.dk_types.specs.declared.event.ClaimReply.TheVariants as claimed
use Rattle.dk_model.specs.DurableWorlds.{DurableWorld, Task}
use Rattle.dk_model.specs.Validity.{IsValid}
use Rattle.dk_model.specs.Worlds.{World, Claim}
use Rattle.dk_model.specs.Events.{Meaning, Happens}
use Rattle.dk_model.specs.Histories.{Leads}
use Rattle.dk_model.specs.Successors.{after_event}
use Rattle.dk_model.specs.Openings.{opening, counting}
use Rattle.dk_model.specs.Sights.{grants}
use Rattle.dk_model.specs.Lawful.{AreLawful, IsJob, IsWithinLimits}
use Rattle.dk_model.specs.Finishes.{IsNew, HasOwnTask}

-- an event leads from a world to one world
abbrev pub EventsLeadToOneWorld : Type 0
EventsLeadToOneWorld = (rules : Meaning) (w : World) (e : Event) (after : World) → Happens rules w e after → after ≡ after_event rules w e

-- from an opening on, with lawful rules and inputs within their limits
abbrev pub WorldsStayValid : Type 0
WorldsStayValid =
    (rules : Meaning) (d : DurableWorld) (budget : Option ℕ) (events : List Event) (w : World) → AreLawful rules → IsValid d → AllByRecursion IsWithinLimits events
    → Leads rules (opening d budget) events w → IsValid w.durable

-- a claimed run's number is nowhere in the durable world, its job is within its limits, and its own task stands as the job has it, where it stands
abbrev pub ClaimsStandReady : Type 0
ClaimsStandReady =
    (rules : Meaning) (d : DurableWorld) (budget : Option ℕ) (events : List Event) (w : World) (run : RunNo) (claim : Claim) → AreLawful rules → IsValid d → AllByRecursion IsWithinLimits events
    → Leads rules (opening d budget) events w → get w.claims run ≡ Some claim → IsNew w.durable run × IsJob claim.job × HasOwnTask w.durable claim.job

-- the claimed run is an occurrence of this task, which is run once
abbrev pub IsOnce : TaskKey → Job → Type 0
IsOnce key j = (due kind : ℕ) × (arg : List ℕ) × (j ≡ job.Task key due 0 kind arg)

-- once a run of a once-task is committed, its key is never pending again
abbrev pub KeysDoNotReturn : Type 0
KeysDoNotReturn =
    (rules : Meaning) (d : DurableWorld) (budget : Option ℕ) (before later : List Event) (at w : World) (pass seq : ℕ) (run : RunNo) (outcome : Outcome) (claim : Claim) (key : TaskKey)
    → AreLawful rules → IsValid d → AllByRecursion IsWithinLimits (before ++ event.Commit pass run seq outcome ∷ later)
    → Leads rules (opening d budget) before at → get at.claims run ≡ Some claim → IsOnce key claim.job
    → Leads rules (opening d budget) (before ++ event.Commit pass run seq outcome ∷ later) w → get w.durable.tasks key ≡ None

-- the number that an event draws, for a connection or for a run
abbrev pub Draws : Event → ℕ → Type 0
Draws (event.Connect pass name (connected.Number conn)) n = n ≡ conn.0
Draws (event.Claim pass (claimed.Granted run at job)) n = n ≡ run.0
Draws _ n = ⊥

-- a number stands in an object's id, in a task's key, or in the record of a session that counts
abbrev pub Knows : DurableWorld → ℕ → Type 0
Knows d n =
    ((id : ObjectId) × (object : Object) × (get d.objects id ≡ Some object) × (n ≡ id.run.0))
    ⊎ ((key : TaskKey) × (task : Task) × (get d.tasks key ≡ Some task) × (n ≡ key.run.0))
    ⊎ (list_any (λ s. nat_eq s.conn.0 n) (counting d) ≡ true)

-- a number that the durable world knows at some time is not drawn from then on
abbrev pub NumbersAreNew : Type 0
NumbersAreNew =
    (rules : Meaning) (d : DurableWorld) (budget : Option ℕ) (before later : List Event) (at w : World) (e : Event) (after : World) (n : ℕ)
    → AreLawful rules → IsValid d → AllByRecursion IsWithinLimits (before ++ later)
    → Leads rules (opening d budget) before at → Leads rules at later w → Happens rules w e after → Knows at.durable n → Draws e n → ⊥

-- whether an event is the Commit of this run
abbrev pub commits_run : RunNo → Event → Bool
commits_run run (event.Commit pass r seq outcome) = nat_eq r.0 run.0
commits_run run (event.Connect pass name reply) = false
commits_run run (event.Post pass conn input reply) = false
commits_run run (event.Claim pass reply) = false
commits_run run (event.Release pass r) = false
commits_run run (event.Hand pass conn most outs end) = false
commits_run run (event.Tick pass moment) = false

-- before a commit of a run there is one claim of it, and no commit; after it there is none either
abbrev pub EachCommitWasClaimedOnce : Type 0
EachCommitWasClaimedOnce =
    (rules : Meaning) (d : DurableWorld) (budget : Option ℕ) (before later : List Event) (w : World) (pass seq : ℕ) (run : RunNo) (outcome : Outcome)
    → Leads rules (opening d budget) (before ++ event.Commit pass run seq outcome ∷ later) w
    → (length (filter (grants run) before) ≡ 1) × (list_any (commits_run run) before ≡ false) × (list_any (commits_run run) later ≡ false)
