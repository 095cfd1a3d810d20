-- The world that a core is, and the histories that it stands for.
use Rattle.std.specs.Prelude.{◌≡◌, ℕ, ◌<◌, true, Option, Some, List, [], ◌++◌}
use Rattle.std.specs.List.{AllByRecursion}
use Rattle.std.specs.FinMap.{FinMap, get}
use Rattle.dk_types.specs.declared.number.RunNo.{RunNo}
use Rattle.dk_types.specs.declared.number.ConnNo.{ConnNo}
use Rattle.dk_types.specs.declared.number.TaskKey.{TaskKey}
use Rattle.dk_types.specs.declared.item.Item.{Item}
use Rattle.dk_types.specs.declared.job.Job.TheVariants as job
use Rattle.dk_types.specs.declared.event.Event.{Event}
use Rattle.dk_types.specs.Keys.{key_cmp, conn_cmp}
use Rattle.dk_model.specs.DurableWorlds.{DurableWorld}
use Rattle.dk_model.specs.Validity.{IsValid}
use Rattle.dk_model.specs.Worlds.{World, Claim}
use Rattle.dk_model.specs.Picks.{is_of, is_task_of, is_claimed}
use Rattle.dk_model.specs.Events.{Meaning}
use Rattle.dk_model.specs.Histories.{Leads}
use Rattle.dk_model.specs.Openings.{opening}
use Rattle.dk_model.specs.Sights.{stamp}
use Rattle.dk_model.specs.Lawful.{AreLawful, IsWithinLimits}
use Rattle.dk_tasks.specs.Tasks.{Kept}
use Rattle.dk_connections.specs.MarkedConnections.{MarkedConnection, all_of, IsSwept}
use Rattle.dk_core.specs.StampedWorlds.{durable_of, seen_now, with_room, HasStamps}
use Rattle.dk_core.specs.Rooms.{IsNoLess}
use Rattle.dk_core.specs.declared.world.Core.{Core}
use Rattle.dk_core.specs.declared.claimed.Claimed.{Claimed}

-- the world that the core is
abbrev pub world_of : Core → World
world_of c = record {
  durable = durable_of c.world;
  moment = c.moment;
  next = c.claims.next;
  budget = c.claims.budget;
  after_task = c.after_task;
  claims = c.claims.claims;
  connections = all_of c.connections.connections;
}

-- the marks on connections and tasks tell which of them claimed runs have, and each input has one run at most; no connection is over with nothing
-- left to hand
pub record IsTracked (w : World) (all : FinMap conn_cmp MarkedConnection) (kept : FinMap key_cmp Kept) : Type 0 where
  pub swept : IsSwept all
  pub inputs : (conn : ConnNo) (l : MarkedConnection) → get all conn ≡ Some l → is_claimed (is_of conn) w ≡ l.claimed
  pub tasks : (key : TaskKey) (t : Kept) → get kept key ≡ Some t → is_claimed (is_task_of key) w ≡ t.claimed
  -- before the first commit the first run alone is claimed
  pub first : w.durable.commits ≡ 0 → (run : RunNo) (claim : Claim) → get w.claims run ≡ Some claim → claim.job ≡ job.Initialize
  pub alone : (conn : ConnNo) (run other : RunNo) (a b : Claim) → get w.claims run ≡ Some a → get w.claims other ≡ Some b → is_of conn a.job ≡ true → is_of conn b.job ≡ true → run ≡ other
  -- the connection of a claimed input was made
  pub below : (run : RunNo) (claim : Claim) (conn : ConnNo) → get w.claims run ≡ Some claim → is_of conn claim.job ≡ true → conn.0 < w.next

-- from the opening of d with this budget on, the events lead to the core's world, and its stamps are those of the history
pub record Represents (rules : Meaning) (d : DurableWorld) (budget : Option ℕ) (events : List Event) (c : Core) : Type 0 where
  pub valid : IsValid d
  pub within : AllByRecursion IsWithinLimits events
  pub leads : Leads rules (opening d budget) events (world_of c)
  pub stamps : HasStamps (stamp rules (opening d budget) events) c.world
  pub tracked : IsTracked (world_of c) c.connections.connections c.world.tasks

-- the history is extended by these events: a core that stood for it stands for it with them at its end
abbrev pub Extends : Meaning → DurableWorld → Option ℕ → List Event → Core → Core → List Event → Type 0
Extends rules d budget events old new more = Represents rules d budget events old → Represents rules d budget (events ++ more) new

-- whatever history of these rules it stood for
abbrev pub AddsBy : Meaning → Core → Core → List Event → Type 0
AddsBy rules old new more = (d : DurableWorld) (budget : Option ℕ) (events : List Event) → Extends rules d budget events old new more

-- whatever history of lawful rules
abbrev pub Adds : Core → Core → List Event → Type 0
Adds old new more = (rules : Meaning) (d : DurableWorld) (budget : Option ℕ) (events : List Event) → AreLawful rules → Extends rules d budget events old new more

-- whatever history; no event is added
abbrev pub AddsNothing : Core → Core → Type 0
AddsNothing old new = (rules : Meaning) → AddsBy rules old new []

-- what was made ready for a commit is ready still: each read sees what it saw, as many runs are committed, and the room of the stores is as it was
pub record KeepsReady (old new : Core) : Type 0 where
  pub seen : (item : Item) → seen_now new.world item ≡ seen_now old.world item
  pub commits : new.world.commits ≡ old.world.commits
  pub room : new.world.room ≡ old.world.room

-- the core is as it was but for the room of its stores, none of which is less
pub record HasMoreRoom (old new : Core) : Type 0 where
  pub world : new.world ≡ with_room new.world.room old.world
  pub connections : new.connections ≡ old.connections
  pub claims : new.claims ≡ old.claims
  pub moment : new.moment ≡ old.moment
  pub after_task : new.after_task ≡ old.after_task
  pub room : IsNoLess old.world.room new.world.room

-- the core stands for some history of lawful rules
pub record IsStanding (c : Core) : Type 0 where
  pub rules : Meaning
  pub opened : DurableWorld
  pub budget : Option ℕ
  pub events : List Event
  pub lawful : AreLawful rules
  pub stands : Represents rules opened budget events c

-- the core granted this claim, and its run has not ended
abbrev pub IsGranted : Core → Claimed → Type 0
IsGranted c claimed = get c.claims.claims claimed.run ≡ Some (record { pass = claimed.pass; job = claimed.job; at = claimed.at })
