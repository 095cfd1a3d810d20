-- What a commit does to the connections: the job's input leaves its queue, messages wait in outboxes, and connections end.
use Rattle.std.specs.Prelude.{◌&&◌, ◌||◌, ◌==◌, not, Bool, true, false, Option, Some, None, List, [], ◌∷◌, ◌++◌, length, drop, map, filter, nat_le, if◌then◌else◌}
use Rattle.std.specs.List.{list_any}
use Rattle.std.specs.FinMap.{FinMap, get, insert, retain_keys}
use Rattle.dk_types.specs.declared.number.ConnNo.{ConnNo}
use Rattle.dk_types.specs.declared.job.Job.{Job}
use Rattle.dk_types.specs.declared.job.Job.TheVariants as job
use Rattle.dk_types.specs.declared.job.Out.{Out}
use Rattle.dk_types.specs.declared.job.Out.TheVariants as out
use Rattle.dk_types.specs.declared.job.Input.TheVariants as input
use Rattle.dk_types.specs.declared.limits.TheConstants.{OUTS_MOST_COUNT}
use Rattle.dk_model.specs.declared.waiting.Waiting.{Waiting}
use Rattle.dk_model.specs.declared.waiting.Waiting.TheVariants as waits
use Rattle.dk_model.specs.Keys.{conn_cmp}
use Rattle.dk_model.specs.Worlds.{Connection}

-- the connections of a world, by number
abbrev pub Connections : Type 0
Connections = FinMap conn_cmp Connection

-- the change made at a number where a connection was found, and nothing elsewhere
abbrev pub changed_at : Option Connection → ConnNo → (Connection → Connection) → Connections → Connections
changed_at None conn change all = all
changed_at (Some c) conn change all = insert all conn (change c)

-- a connection changed, where it is there
abbrev pub change_connection : ConnNo → (Connection → Connection) → Connections → Connections
change_connection conn change all = changed_at (get all conn) conn change all

-- the connection that an input is of
abbrev pub conn_of : Job → Option ConnNo
conn_of (job.Login conn name) = Some conn
conn_of (job.Message conn name body) = Some conn
conn_of (job.Channel conn name channel body) = Some conn
conn_of (job.Disconnect conn name graceful) = Some conn
conn_of job.Initialize = None
conn_of (job.Task key due period kind arg) = None

-- the change made at a connection, if one is named
abbrev pub for_conn : Option ConnNo → (Connection → Connection) → Connections → Connections
for_conn None change all = all
for_conn (Some conn) change all = change_connection conn change all

-- a claimed input is first in its queue until its commit, unless a Close has emptied the queue
abbrev pub input_left : Connection → Connection
input_left c = record c { queue = drop 1 c.queue }

-- whether what waits is a disconnect
abbrev pub is_disconnect : Waiting → Bool
is_disconnect (waits.Input (input.Disconnect graceful)) = true
is_disconnect (waits.Input (input.Message body)) = false
is_disconnect (waits.Input (input.Channel channel body)) = false
is_disconnect waits.Login = false

-- the end of the session waits last, where it does not wait already
abbrev pub with_disconnect : List Waiting → List Waiting
with_disconnect queue = if list_any is_disconnect queue then queue else queue ++ waits.Input (input.Disconnect false) ∷ []

-- a connection that as many messages wait for as may wait gets no further one, and is cut
abbrev pub cut_off : Connection → Connection
cut_off c = record c { queue = with_disconnect c.queue; closed = true; cut = true }

-- whether as many messages wait as may
abbrev pub is_full : Connection → Bool
is_full c = nat_le OUTS_MOST_COUNT (length c.outbox)

-- a message is dropped at a connection that is cut or over
abbrev pub with_out : Out → Connection → Connection
with_out message c =
    if c.cut || c.over then c
    else if is_full c then cut_off c
    else record c { outbox = c.outbox ++ message ∷ [] }

-- whether a message that comes next is appended
abbrev pub takes : Option Connection → Bool
takes None = false
takes (Some c) = not (c.cut || c.over || is_full c)

-- what becomes of messages: the connections behind the last of them, and those of them that were appended, in order
pub record Sent : Type 0 where
  pub connections : Connections
  pub appended : List (ConnNo × Out)

-- THE WALK over the messages of a commit, one after another
abbrev pub sent : List (ConnNo × Out) → Connections → Sent
sent [] all = record { connections = all; appended = [] }
sent (o ∷ outs) all =
    let later = sent outs (change_connection o.0 (with_out o.1) all) in
    record { connections = later.connections; appended = if takes (get all o.0) then o ∷ later.appended else later.appended }

-- the connections with the messages in their outboxes
abbrev pub with_outs : List (ConnNo × Out) → Connections → Connections
with_outs outs all = (sent outs all).connections

-- whether a message closes its connection
abbrev pub is_close : Out → Bool
is_close out.Close = true
is_close out.Accepted = false
is_close out.Refused = false
is_close (out.Message body) = false
is_close (out.Channel channel body) = false

-- the connections to which a Close was appended
abbrev pub closed_by : List (ConnNo × Out) → Connections → List ConnNo
closed_by outs all = map (λ o. o.0) (filter (λ o. is_close o.1) (sent outs all).appended)

-- nothing more comes from a connection that was closed, and nothing more is sent to it
abbrev pub close_off : Connection → Connection
close_off c = record c { queue = []; closed = true; over = true }

-- each of these connections closed off
abbrev pub with_closed : List ConnNo → Connections → Connections
with_closed [] all = all
with_closed (conn ∷ conns) all = with_closed conns (change_connection conn close_off all)

-- the connection that a job ends, if it is a disconnect
abbrev pub ended_by : Job → Option ConnNo
ended_by (job.Disconnect conn name graceful) = Some conn
ended_by _ = None

-- all that a commit of this job with these messages does to the connections
abbrev pub delivered : Job → List (ConnNo × Out) → Connections → Connections
delivered job outs all =
    let left = for_conn (conn_of job) input_left all in
    for_conn (ended_by job) (λ c. record c { over = true }) (with_closed (closed_by outs left) (with_outs outs left))

-- whether what was found is a connection that is over and has nothing left to hand
abbrev pub is_done : Option Connection → Bool
is_done None = false
is_done (Some c) = c.over && (length c.outbox == 0)

-- a connection that is over and has nothing left to hand is gone
abbrev pub without_done : Connections → Connections
without_done all = retain_keys all (λ conn. not (is_done (get all conn)))
