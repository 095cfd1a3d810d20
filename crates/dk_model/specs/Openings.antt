-- The world as it opens: the durable world that a stop left, and each recorded session told of its end.
use Rattle.std.specs.Prelude.{ℕ, ◌&&◌, ◌==◌, Bool, true, false, Option, Some, None, List, [], ◌∷◌, length, take, drop, nat_lt, nat_eq, if◌then◌else◌}
use Rattle.std.specs.List.{list_any, filter_map}
use Rattle.std.specs.Cmp.Lexicographic.{pointwise}
use Rattle.std.specs.FinMap.{FinMap, get, insert, entries, empty}
use Rattle.dk_types.specs.declared.number.ConnNo.{ConnNo}
use Rattle.dk_types.specs.declared.number.ObjectId.{ObjectId}
use Rattle.dk_types.specs.declared.object.Object.{Object}
use Rattle.dk_types.specs.declared.job.Session.{Session}
use Rattle.dk_types.specs.declared.job.Input.TheVariants as input
use Rattle.dk_model.specs.declared.waiting.Waiting.TheVariants as waits
use Rattle.dk_model.specs.declared.records.SessionRecord.{SessionRecord}
use Rattle.dk_model.specs.Keys.{conn_cmp}
use Rattle.dk_model.specs.DurableWorlds.{DurableWorld}
use Rattle.dk_model.specs.Validity.{next_of}
use Rattle.dk_model.specs.Records.{SESSION_KIND, session_of}
use Rattle.dk_model.specs.Worlds.{World, Connection, Budget}

-- the login name of a name that begins with `$s.` and goes on
abbrev pub login_of : List ℕ → Option (List ℕ)
login_of name = if pointwise nat_eq (take 3 name) (36 ∷ 115 ∷ 46 ∷ []) && nat_lt 3 (length name) then Some (drop 3 name) else None

-- the record that an object is, where it is a session's
abbrev pub record_in : Option Object → Option SessionRecord
record_in None = None
record_in (Some object) = if object.kind == SESSION_KIND then session_of object.bytes else None

-- a session whose number was drawn up to the largest committed run
abbrev pub counted : DurableWorld → List ℕ → Option SessionRecord → Option Session
counted d name None = None
counted d name (Some r) = if nat_lt r.conn.0 (next_of d.last) then Some (record { name = name; conn = r.conn }) else None

-- the session that a record under this name stands for, if it counts
abbrev pub session_at : DurableWorld → Option (List ℕ) → ObjectId → Option Session
session_at d None id = None
session_at d (Some name) id = counted d name (record_in (get d.objects id))

-- the sessions that are recorded, in the order of their names
abbrev pub recorded : DurableWorld → List Session
recorded d = filter_map (λ e. session_at d (login_of e.0) e.1) (entries d.names)

-- whether a session has this connection's number
abbrev pub has_number : ConnNo → Session → Bool
has_number conn session = nat_eq session.conn.0 conn.0

-- of those with one number the first alone, none of which is among those before
abbrev pub first_of_each : List Session → List Session → List Session
first_of_each before [] = []
first_of_each before (s ∷ sessions) =
    if list_any (has_number s.conn) before then first_of_each before sessions else s ∷ first_of_each (s ∷ before) sessions

-- the sessions that count: of the records with one number, the one of the least name
abbrev pub counting : DurableWorld → List Session
counting d = first_of_each [] (recorded d)

-- a connection of before the stop: its end waits, and nothing is sent to it
abbrev pub ended_connection : Session → Connection
ended_connection s = record {
  name = s.name;
  queue = waits.Input (input.Disconnect false) ∷ [];
  outbox = [];
  turn = s.conn.0;
  closed = true;
  cut = true;
  over = false;
}

-- each of these sessions as a connection that is over but for its Disconnect
abbrev pub with_sessions : List Session → FinMap conn_cmp Connection → FinMap conn_cmp Connection
with_sessions [] all = all
with_sessions (s ∷ sessions) all = with_sessions sessions (insert all s.conn (ended_connection s))

-- a budget of so many claims, none of which is granted yet
abbrev pub budget_of : Option ℕ → Option Budget
budget_of None = None
budget_of (Some most) = Some (record { granted = 0; left = most })

-- the world that a durable world opens to, with a budget of claims or without
unfoldable pub opening : DurableWorld → Option ℕ → World
opening d budget = record {
  durable = d;
  moment = 0;
  next = next_of d.last;
  budget = budget_of budget;
  after_task = false;
  claims = empty;
  connections = with_sessions (counting d) empty;
}
