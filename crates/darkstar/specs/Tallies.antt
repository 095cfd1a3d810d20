-- What a pass reads of the counters, once nothing is left to run.
use Rattle.std.specs.Prelude.{◌≡◌, ℕ, ◌<◌, ◌^◌, Option, Some, None, List, [], length, slice_index}
use Rattle.dk_types.specs.declared.durable.Durable.{Durable}
use Rattle.dk_types.specs.declared.event.Event.{Event}
use Rattle.dk_types.specs.declared.object.Object.{Object}
use Rattle.dk_model.specs.DurableWorlds.{DurableWorld}
use Rattle.dk_model.specs.Legal.{Opened, world_after}
use Rattle.dk_core.specs.Listings.{world_of}
use Rattle.dk_turn.specs.Fronts.{Known}
use Rattle.dk_host.specs.Passes.{Enters}
use Rattle.dk_play_laws.specs.Seen.{AreNumbered, AreBehind, HaveSeen}
use Rattle.dk_demos.specs.declared.counter.Counter.{Counter}
use Rattle.dk_demos.specs.Counting.{counter_of}
use Rattle.dk_demos.specs.CountersRules.{counters_rules}
use Rattle.dk_demos.specs.CountersTotals.{HasCounter, AreUnconnected, IsAtRest}

-- what the host is opened with: the rules of the counters, this durable world, and no budget
abbrev pub counters_on : ℕ → ℕ → Durable → Opened
counters_on seed tasks durable = record { rules = counters_rules seed tasks; durable = world_of durable; budget = None }

-- the count of a counter, or 0 where there is none
abbrev pub count_of : Option Counter → ℕ
count_of None = 0
count_of (Some counter) = counter.count

-- the count of an object that is a counter; an absent or other one counts 0
abbrev pub count_in : Option Object → ℕ
count_in None = 0
count_in (Some object) = count_of (counter_of object.bytes)

-- what was read of a counter is its count, where the world has it
abbrev pub IsCountIn : DurableWorld → ℕ → ℕ → Type 0
IsCountIn d number read = (count : ℕ) → count < 2 ^ 64 → HasCounter d number count → read ≡ count

-- the first counters were read
abbrev pub AreCountsIn : DurableWorld → ℕ → List ℕ → Type 0
AreCountsIn d n counts = (length counts ≡ n) × ((number : ℕ) → number < n → IsCountIn d number (slice_index counts number))

-- the pass, of a host with so many passes, entered nothing; where nobody else did either, this holds of the world
pub record ReadsAlone (o : Opened) (passes : ℕ) (P : DurableWorld → Type 0) (old new : Known Event) : Type 0 where
  pub number : new.number ≡ old.number
  pub enters : Enters o passes old.number [] old.front new.front
  pub tells : new.front ≡ old.front → P (world_after o new.front).durable

-- it read a counter
abbrev pub ReadsCounter : Opened → ℕ → ℕ → Known Event → Known Event → ℕ → Type 0
ReadsCounter o passes number old new count = ReadsAlone o passes (λ d. IsCountIn d number count) old new

-- it read the first counters
abbrev pub ReadsCounters : Opened → ℕ → ℕ → Known Event → Known Event → List ℕ → Type 0
ReadsCounters o passes n old new counts = ReadsAlone o passes (λ d. AreCountsIn d n counts) old new

-- nobody has connected, nothing is left to run, and nothing is claimed
pub record HasRested (o : Opened) (events : List Event) : Type 0 where
  pub unconnected : AreUnconnected events
  pub rest : IsAtRest (world_after o events)

-- THE TALLY: after these events nothing is left to run, and these are the sixteen counters
pub record IsTally (o : Opened) (events : List Event) (counts : List ℕ) : Type 0 where
  pub rested : HasRested o events
  pub read : AreCountsIn (world_after o events).durable 16 counts

-- the same before the history is closed: it holds where the workers have entered nothing that the main pass has not seen
pub record IsTallied (o : Opened) (workers : List (Known Event)) (main : Known Event) (counts : List ℕ) : Type 0 where
  pub numbered : AreNumbered 0 workers
  pub number : main.number ≡ length workers
  pub behind : AreBehind workers main.front
  pub tally : HaveSeen workers main.front → IsTally o main.front counts

-- the main pass has met each worker once nothing was left to run
pub record IsRested (o : Opened) (workers : List (Known Event)) (main : Known Event) : Type 0 where
  pub numbered : AreNumbered 0 workers
  pub number : main.number ≡ length workers
  pub behind : AreBehind workers main.front
  pub rested : HaveSeen workers main.front → HasRested o main.front
