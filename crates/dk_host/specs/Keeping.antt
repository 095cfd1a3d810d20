-- The events that are kept in memory, and the places that are kept for those that have to find one.
use Rattle.std.specs.Prelude.{◌≡◌, ℕ, ◌+◌, ◌-◌, ◌≤◌, Bool, true, false, Option, Some, None, List, [], ◌∷◌, length, if◌then◌else◌}
use Rattle.std.specs.FinMap.{FinMap, get, len}
use Rattle.dk_types.specs.declared.number.ConnNo.{ConnNo}
use Rattle.dk_types.specs.declared.job.Input.{Input}
use Rattle.dk_types.specs.declared.job.Input.TheVariants as input
use Rattle.dk_types.specs.declared.event.Event.{Event}
use Rattle.dk_types.specs.declared.event.Event.TheVariants as event
use Rattle.dk_types.specs.declared.event.ConnectReply.{ConnectReply}
use Rattle.dk_types.specs.declared.event.ConnectReply.TheVariants as connected
use Rattle.dk_types.specs.declared.event.PostReply.{PostReply}
use Rattle.dk_types.specs.declared.event.PostReply.TheVariants as posted
use Rattle.dk_types.specs.declared.event.ClaimReply.{ClaimReply}
use Rattle.dk_types.specs.declared.event.ClaimReply.TheVariants as claimed
use Rattle.dk_model.specs.Keys.{conn_cmp}
use Rattle.dk_model.specs.Events.{is_open}
use Rattle.dk_model.specs.Legal.{Opened, world_after}
use Rattle.dk_model.specs.Worlds.{World}

-- the events that there are of one or none
abbrev pub listed : Option Event → List Event
listed None = []
listed (Some e) = e ∷ []

-- whether a connection was made
abbrev pub is_made : ConnectReply → Bool
is_made (connected.Number conn) = true
is_made (connected.Exhausted next) = false

-- whether a claim was granted
abbrev pub is_granted : ClaimReply → Bool
is_granted (claimed.Granted run at job) = true
is_granted claimed.Nothing = false
is_granted (claimed.Spent granted) = false
is_granted (claimed.Exhausted next) = false

-- whether an input was taken
abbrev pub is_taken : PostReply → Bool
is_taken posted.Taken = true
is_taken posted.Closed = false
is_taken (posted.QueueFull waiting) = false

-- whether an input that was answered so ends its session
abbrev pub ends_session : Input → PostReply → Bool
ends_session (input.Disconnect graceful) reply = is_taken reply
ends_session (input.Message body) reply = false
ends_session (input.Channel channel body) reply = false

-- whether a later event will need a place: a connection is to have its Disconnect, and a claim its end
abbrev pub begins_one : Event → Bool
begins_one (event.Connect pass name reply) = is_made reply
begins_one (event.Claim pass reply) = is_granted reply
begins_one (event.Post pass conn input reply) = false
begins_one (event.Release pass run) = false
begins_one (event.Commit pass run seq outcome) = false
begins_one (event.Hand pass conn most outs end) = false
begins_one (event.Tick pass moment) = false

-- whether its place is kept since an earlier event
abbrev pub ends_one : Event → Bool
ends_one (event.Post pass conn input reply) = ends_session input reply
ends_one (event.Release pass run) = true
ends_one (event.Commit pass run seq outcome) = true
ends_one (event.Connect pass name reply) = false
ends_one (event.Claim pass reply) = false
ends_one (event.Hand pass conn most outs end) = false
ends_one (event.Tick pass moment) = false

-- how many places an event takes that are not kept yet: none, its own, or its own and that of the event that it begins
abbrev pub new_places : Event → ℕ
new_places e = if ends_one e then 0 else if begins_one e then 2 else 1

-- how many places are kept after the event
abbrev pub owed_after : Event → ℕ → ℕ
owed_after e owed = if ends_one e then owed - 1 else if begins_one e then owed + 1 else owed

-- So many places are enough: one for each of some connections, among which is each that is open, and one for each claim
pub record IsOwed (w : World) (owed : ℕ) : Type 0 where
  pub rooms : FinMap conn_cmp (Unit {0})
  pub holds : (conn : ConnNo) → is_open w conn ≡ true → get rooms conn ≡ Some tt
  pub enough : len rooms + len w.claims ≤ owed

-- what contracts see of a history: its events, and how many places are free beside those that are kept
pub record KeptHistory : Type 0 where
  pub events : List Event
  pub spare : ℕ

-- these two together
abbrev pub kept_history : List Event → ℕ → KeptHistory
kept_history events spare = record { events = events; spare = spare }

-- Where the host keeps its events they are all here, in order, with enough places for those that need no memory. Where it keeps none there are none
pub record IsKeptAs (o : Opened) (keeps : Bool) (events kept : List Event) (owed capacity : ℕ) : Type 0 where
  pub same : keeps ≡ true → kept ≡ events
  pub none : keeps ≡ false → kept ≡ []
  pub owes : keeps ≡ true → IsOwed (world_after o events) owed
  pub room : keeps ≡ true → length kept + owed ≤ capacity
