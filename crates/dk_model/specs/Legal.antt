-- Legal histories from an opening, and what a pass has seen of one.
use Rattle.std.specs.Prelude.{◌≡◌, ◌≢◌, ℕ, ◌<◌, ◌≤◌, Bool, true, false, Option, List, ◌++◌, count_by}
use Rattle.std.specs.List.{AllByRecursion}
use Rattle.dk_types.specs.declared.event.Event.{Event}
use Rattle.dk_types.specs.declared.event.Event.TheVariants as event
use Rattle.dk_types.specs.declared.limits.TheConstants.{PASSES_MOST_COUNT}
use Rattle.dk_model.specs.DurableWorlds.{DurableWorld}
use Rattle.dk_model.specs.Validity.{IsValid}
use Rattle.dk_model.specs.Worlds.{World}
use Rattle.dk_model.specs.Events.{Meaning}
use Rattle.dk_model.specs.Histories.{IsHistory}
use Rattle.dk_model.specs.Lawful.{IsWithinLimits}
use Rattle.dk_model.specs.Openings.{opening}
use Rattle.dk_model.specs.Successors.{after_events}

-- the pass that the event is of
abbrev pub pass_of : Event → ℕ
pass_of (event.Connect pass name reply) = pass
pass_of (event.Post pass conn input reply) = pass
pass_of (event.Claim pass reply) = pass
pass_of (event.Release pass run) = pass
pass_of (event.Commit pass run seq outcome) = pass
pass_of (event.Hand pass conn most outs end) = pass
pass_of (event.Tick pass moment) = pass

-- how many passes a host may have
abbrev pub IsPassCount : ℕ → Type 0
IsPassCount count = (0 < count) × (count ≤ PASSES_MOST_COUNT)

-- whether an event is a Commit
abbrev pub is_commit : Event → Bool
is_commit (event.Commit pass run seq outcome) = true
is_commit (event.Connect pass name reply) = false
is_commit (event.Post pass conn input reply) = false
is_commit (event.Claim pass reply) = false
is_commit (event.Release pass run) = false
is_commit (event.Hand pass conn most outs end) = false
is_commit (event.Tick pass moment) = false

-- how many commits a history has
abbrev pub commits_of : List Event → ℕ
commits_of events = count_by is_commit events

-- what a server is opened with: a game's meaning, a durable world, and a budget of claims or none
pub record Opened : Type 0 where
  pub rules : Meaning
  pub durable : DurableWorld
  pub budget : Option ℕ

-- the world that it opens to
abbrev pub opening_of : Opened → World
opening_of o = opening o.durable o.budget

-- the world after these events
abbrev pub world_after : Opened → List Event → World
world_after o events = after_events o.rules (opening_of o) events

-- the events happen one after another from the opening of a valid durable world on, and what comes from outside is within its limits
pub record IsLegal (o : Opened) (events : List Event) : Type 0 where
  pub valid : IsValid o.durable
  pub within : AllByRecursion IsWithinLimits events
  pub history : IsHistory o.rules (opening_of o) events

-- the history begins with what the pass has seen, and what lies beyond is of other passes
pub record IsFront (pass : ℕ) (front log : List Event) : Type 0 where
  pub later : List Event
  pub all : log ≡ front ++ later
  pub others : AllByRecursion (λ e. pass_of e ≢ pass) later
