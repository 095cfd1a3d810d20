-- Every record of a session counts, and stays so where a game's rules keep the sessions.
use Rattle.std.specs.Prelude.{◌≡◌, ℕ, ◌<◌, Option, Some, List, [], ◌∷◌, length, Contains}
use Rattle.std.specs.FinMap.{get}
use Rattle.std.specs.List.{AllByRecursion}
use Rattle.dk_types.specs.declared.event.Event.{Event}
use Rattle.dk_types.specs.declared.number.ObjectId.{ObjectId}
use Rattle.dk_types.specs.declared.object.Object.{Object}
use Rattle.dk_model.specs.declared.records.SessionRecord.{SessionRecord}
use Rattle.dk_model.specs.DurableWorlds.{DurableWorld, empty_world}
use Rattle.dk_model.specs.Validity.{IsValid, next_of}
use Rattle.dk_model.specs.Worlds.{World}
use Rattle.dk_model.specs.Events.{Meaning}
use Rattle.dk_model.specs.Histories.{Leads}
use Rattle.dk_model.specs.Legal.{Opened, IsLegal, world_after}
use Rattle.dk_model.specs.Openings.{record_in, counting, ended_connection, opening}
use Rattle.dk_model.specs.Records.{SESSION_KIND, session_name}
use Rattle.dk_model.specs.Lawful.{AreLawful, IsWithinLimits}
use Rattle.dk_session_laws.specs.Sessions.{KeepSessions}

-- The record of a session, bound under `$s.` and a login name, counts: its number was drawn up to the largest committed run, no other name has a record with it, and its session is one of those that count at an opening.
pub record Counts (d : DurableWorld) (name : List ℕ) (id : ObjectId) (r : SessionRecord) : Type 0 where
  pub named : 0 < length name
  pub bound : get d.names (session_name name) ≡ Some id
  pub recorded : record_in (get d.objects id) ≡ Some r
  pub below : r.conn.0 < next_of d.last
  pub alone : (other : List ℕ) (i : ObjectId) (x : SessionRecord) → get d.names (session_name other) ≡ Some i → record_in (get d.objects i) ≡ Some x → x.conn.0 ≡ r.conn.0 → other ≡ name
  pub counted : Contains (counting d) (record { name = name; conn = r.conn })

-- Each name that begins with `$s.` leads to a record that counts, and each object of the sessions' kind is one.
pub record EverySessionCounts (d : DurableWorld) : Type 0 where
  pub bound : (name : List ℕ) (id : ObjectId) → get d.names (session_name name) ≡ Some id → (r : SessionRecord) × Counts d name id r
  pub held : (id : ObjectId) (object : Object) → get d.objects id ≡ Some object → object.kind ≡ SESSION_KIND → (name : List ℕ) × (r : SessionRecord) × Counts d name id r

-- before the first run none is there
abbrev pub FreshSessionsCount : Type 0
FreshSessionsCount = EverySessionCounts empty_world

-- from an opening on, with lawful rules that keep the sessions and inputs within their limits
abbrev pub SessionsStayCounted : Type 0
SessionsStayCounted =
    (rules : Meaning) (d : DurableWorld) (budget : Option ℕ) (events : List Event) (w : World) → AreLawful rules → KeepSessions rules → IsValid d → EverySessionCounts d → AllByRecursion IsWithinLimits events
    → Leads rules (opening d budget) events w → EverySessionCounts w.durable

-- the same of what a host's history is
abbrev pub LegalSessionsCount : Type 0
LegalSessionsCount = (o : Opened) (events : List Event) → AreLawful o.rules → KeepSessions o.rules → EverySessionCounts o.durable → IsLegal o events → EverySessionCounts (world_after o events).durable

-- a record that counts has a connection of its own at the opening, which is cut and closed and has its end waiting
abbrev pub OpeningsConnect : Type 0
OpeningsConnect =
    (d : DurableWorld) (budget : Option ℕ) (name : List ℕ) (id : ObjectId) (r : SessionRecord) → Counts d name id r
    → get (opening d budget).connections r.conn ≡ Some (ended_connection (record { name = name; conn = r.conn }))

-- what a server lived between two stops: its game's rules, its budget of claims, and its events
pub record Life : Type 0 where
  pub rules : Meaning
  pub budget : Option ℕ
  pub events : List Event

-- the durable world that these lives left, the last of them first, from the empty world on
abbrev pub IsLeftBy : List Life → DurableWorld → Type 0
IsLeftBy [] d = ◌≡◌ {A = DurableWorld} d empty_world
IsLeftBy (life ∷ earlier) d =
    (before : DurableWorld) × IsLeftBy earlier before × AllByRecursion IsWithinLimits life.events × ((w : World) × Leads life.rules (opening before life.budget) life.events w × (w.durable ≡ d))

-- in a store that only such games wrote
abbrev pub StoresCount : Type 0
StoresCount = (lives : List Life) (d : DurableWorld) → AllByRecursion (λ life. AreLawful life.rules × KeepSessions life.rules) lives → IsLeftBy lives d → IsValid d × EverySessionCounts d
