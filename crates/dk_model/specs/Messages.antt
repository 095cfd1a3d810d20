-- What a history sent to a connection, and what it handed to it.
use Rattle.std.specs.Prelude.{Bool, Option, Some, None, List, [], ◌∷◌, ◌++◌, map, filter, nat_eq, if◌then◌else◌}
use Rattle.std.specs.FinMap.{get}
use Rattle.dk_types.specs.declared.number.ConnNo.{ConnNo}
use Rattle.dk_types.specs.declared.number.RunNo.{RunNo}
use Rattle.dk_types.specs.declared.job.Out.{Out}
use Rattle.dk_types.specs.declared.event.Event.{Event}
use Rattle.dk_types.specs.declared.event.Event.TheVariants as event
use Rattle.dk_model.specs.Worlds.{World, Claim}
use Rattle.dk_model.specs.Deliveries.{Connections, sent, conn_of, for_conn, input_left}
use Rattle.dk_model.specs.Events.{Meaning, step_of}
use Rattle.dk_model.specs.Successors.{after_event}

-- whether two numbers are those of one connection
abbrev pub same_conn : ConnNo → ConnNo → Bool
same_conn a b = nat_eq a.0 b.0

-- those of the messages that are appended to this connection's outbox, in order
abbrev pub appended : ConnNo → List (ConnNo × Out) → Connections → List Out
appended conn outs all = map (λ o. o.1) (filter (λ o. same_conn o.0 conn) (sent outs all).appended)

-- what a commit appends to a connection's messages, where its claim was found
abbrev pub appended_at : Meaning → World → ConnNo → RunNo → Option Claim → List Out
appended_at rules w conn run None = []
appended_at rules w conn run (Some claim) = appended conn (step_of rules w run claim).outs (for_conn (conn_of claim.job) input_left w.connections)

-- the messages that an event appends to the connection's outbox, which a commit alone does
abbrev pub appended_by : Meaning → World → ConnNo → Event → List Out
appended_by rules w conn (event.Commit pass run seq outcome) = appended_at rules w conn run (get w.claims run)
appended_by rules w conn (event.Connect pass name reply) = []
appended_by rules w conn (event.Post pass to input reply) = []
appended_by rules w conn (event.Claim pass reply) = []
appended_by rules w conn (event.Release pass run) = []
appended_by rules w conn (event.Hand pass to most outs end) = []
appended_by rules w conn (event.Tick pass moment) = []

-- the messages that the commits appended to the connection's outbox, in order
abbrev pub messages : Meaning → World → List Event → ConnNo → List Out
messages rules w [] conn = []
messages rules w (e ∷ events) conn = appended_by rules w conn e ++ messages rules (after_event rules w e) events conn

-- what an event hands to a connection
abbrev pub handed_by : ConnNo → Event → List Out
handed_by conn (event.Hand pass to most outs end) = if same_conn to conn then outs else []
handed_by conn (event.Connect pass name reply) = []
handed_by conn (event.Post pass to input reply) = []
handed_by conn (event.Claim pass reply) = []
handed_by conn (event.Release pass run) = []
handed_by conn (event.Commit pass run seq outcome) = []
handed_by conn (event.Tick pass moment) = []

-- all that was handed to the connection
abbrev pub handed : List Event → ConnNo → List Out
handed [] conn = []
handed (e ∷ events) conn = handed_by conn e ++ handed events conn
