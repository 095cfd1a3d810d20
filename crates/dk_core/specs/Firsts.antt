-- The connections that are opened, one session after another.
use Rattle.std.specs.Prelude.{◌≡◌, false, Option, None, Some, if◌then◌else◌}
use Rattle.std.specs.FinMap.{FinMap, get, insert, contains_key}
use Rattle.dk_types.specs.declared.number.ConnNo.{ConnNo}
use Rattle.dk_types.specs.declared.job.Session.{Session}
use Rattle.dk_types.specs.Keys.{conn_cmp}
use Rattle.dk_model.specs.Deliveries.{Connections}
use Rattle.dk_model.specs.Openings.{ended_connection}
use Rattle.dk_connections.specs.MarkedConnections.{MarkedConnection, IsSwept}

-- the connections with that of a session, where there is one, and none of its number
abbrev pub with_first : Option Session → Connections → Connections
with_first None all = all
with_first (Some s) all = if contains_key all s.conn then all else insert all s.conn (ended_connection s)

-- no claimed run has an input of any, and none is over with nothing left to hand
pub record IsFresh (all : FinMap conn_cmp MarkedConnection) : Type 0 where
  pub unclaimed : (conn : ConnNo) (l : MarkedConnection) → get all conn ≡ Some l → l.claimed ≡ false
  pub swept : IsSwept all
