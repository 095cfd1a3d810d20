-- What the tasks of the counters come to: the plain counts of the list that they were planned from.
use Rattle.std.specs.Prelude.{◌≡◌, ℕ, ◌+◌, ◌<◌, ◌≤◌, Bool, true, false, nat_eq, Some, None, List, [], ◌∷◌, count_by}
use Rattle.std.proofs.Common.{zero, suc}
use Rattle.std.specs.List.{AllByRecursion}
use Rattle.std.specs.FinMap.{get}
use Rattle.dk_types.specs.declared.number.RunNo.{RunNo}
use Rattle.dk_types.specs.declared.number.ObjectId.{ObjectId}
use Rattle.dk_types.specs.declared.event.Event.{Event}
use Rattle.dk_types.specs.declared.event.Event.TheVariants as event
use Rattle.dk_types.specs.declared.limits.TheConstants.{TASKS_MOST_COUNT}
use Rattle.dk_model.specs.DurableWorlds.{DurableWorld, empty_world}
use Rattle.dk_model.specs.Legal.{Opened, IsLegal, world_after}
use Rattle.dk_model.specs.Picks.{runnable}
use Rattle.dk_model.specs.Worlds.{World}
use Rattle.dk_demos.specs.Counting.{COUNTER, counter_bytes}
use Rattle.dk_demos.specs.CountersRules.{counter_name, counter_of_task, counters_rules}

-- the counters of so many tasks behind the first ones, in order
unfoldable pub generated_from : ℕ → ℕ → ℕ → List ℕ
generated_from seed before zero = []
generated_from seed before (suc n) = counter_of_task seed (before + 1) ∷ generated_from seed (before + 1) n

-- THE GENERATED LIST: which counter each task raises
abbrev pub generated : ℕ → ℕ → List ℕ
generated seed tasks = generated_from seed 0 tasks

-- how often a counter is in the generated list
abbrev pub plain_count : ℕ → ℕ → ℕ → ℕ
plain_count seed tasks counter = count_by (λ item. nat_eq item counter) (generated seed tasks)

-- the counter of this number is bound under its name, and was raised so often
pub record HasCounter (d : DurableWorld) (number count : ℕ) : Type 0 where
  pub id : ObjectId
  pub bound : get d.names (counter_name number) ≡ Some id
  pub object : get d.objects id ≡ Some (record { kind = COUNTER; bytes = counter_bytes (record { count = count }) })

-- THE TOTALS: the first run and each task are committed once, and each counter was raised as often as it is in the generated list
pub record AreTotals (seed tasks : ℕ) (d : DurableWorld) : Type 0 where
  pub commits : d.commits ≡ tasks + 1
  pub counters : (number : ℕ) → number < 16 → HasCounter d number (plain_count seed tasks number)

-- whether an event is a Connect
abbrev pub is_connect : Event → Bool
is_connect (event.Connect pass name reply) = true
is_connect (event.Post pass conn input reply) = false
is_connect (event.Claim pass reply) = false
is_connect (event.Release pass run) = false
is_connect (event.Commit pass run seq outcome) = false
is_connect (event.Hand pass conn most outs end) = false
is_connect (event.Tick pass moment) = false

-- nobody connects
abbrev pub AreUnconnected : List Event → Type 0
AreUnconnected events = AllByRecursion (λ e. is_connect e ≡ false) events

-- nothing is left to run, and nothing is claimed
pub record IsAtRest (w : World) : Type 0 where
  pub nothing : runnable w ≡ []
  pub unclaimed : (run : RunNo) → get w.claims run ≡ None

-- the rules of the counters on a world that is empty at first, with so many tasks as one run may plan
pub record AreOfCounters (seed tasks : ℕ) (o : Opened) : Type 0 where
  pub rules : o.rules ≡ counters_rules seed tasks
  pub empty : o.durable ≡ empty_world
  pub few : tasks ≤ TASKS_MOST_COUNT

-- THE LAW: where nobody connects, a legal history that comes to rest has come to the totals, whoever ran what, and in whatever order
abbrev pub CountersComeToTotals : Type 0
CountersComeToTotals =
    (o : Opened) (seed tasks : ℕ) (events : List Event) → AreOfCounters seed tasks o → IsLegal o events → AreUnconnected events → IsAtRest (world_after o events)
    → AreTotals seed tasks (world_after o events).durable
