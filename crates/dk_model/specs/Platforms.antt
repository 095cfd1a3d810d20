-- What the platform's own calls do: sessions and channels, kept as managed objects under names that begin with `$`.
use Rattle.std.specs.Prelude.{ℕ, ◌+◌, ◌&&◌, ◌||◌, not, Bool, true, false, Option, Some, None, List, [], ◌∷◌, ◌++◌, length, nat_lt, map, filter, is_some, if◌then◌else◌, Ok}
use Rattle.std.specs.FinMap as maps
use Rattle.std.specs.List.{list_any, cons_option}
use Rattle.std.specs.Cmp.Lexicographic.{pointwise}
use Rattle.std.specs.Prelude.{nat_eq}
use Rattle.dk_types.specs.declared.number.ConnNo.{ConnNo}
use Rattle.dk_types.specs.declared.number.ObjectId.{ObjectId}
use Rattle.dk_types.specs.declared.job.Session.{Session}
use Rattle.dk_types.specs.declared.job.Out.{Out}
use Rattle.dk_types.specs.declared.job.Out.TheVariants as out
use Rattle.dk_types.specs.declared.limits.TheConstants.{MESSAGES_MOST_COUNT}
use Rattle.dk_model.specs.Runs.{Run, Act, give, and_then, within, refuse, create, save, remove, bound, bind, unbind, send, is_too_long, NAME_NOT_BOUND, TOO_LONG, TOO_MANY, NAME_EXISTS}
use Rattle.dk_model.specs.References.{get_as}
use Rattle.dk_types.specs.declared.mode.Mode.TheVariants.{Platform}
use Rattle.dk_model.specs.declared.records.SessionRecord.{SessionRecord}
use Rattle.dk_model.specs.declared.records.ChannelRecord.{ChannelRecord}
use Rattle.dk_model.specs.declared.records.Delivery.{Delivery}
use Rattle.dk_model.specs.Records.{SESSION_KIND, CHANNEL_KIND, session_bytes, session_of, channel_bytes, channel_of, session_name, channel_name, is_name_too_long}

-- whether two names are equal
abbrev pub same_name : List ℕ → List ℕ → Bool
same_name = pointwise nat_eq

-- whether two sessions have the same name and connection
abbrev pub same_session : Session → Session → Bool
same_session a b = same_name a.name b.name && nat_eq a.conn.0 b.conn.0

-- what a platform name is bound to; one that would pass 255 bytes is bound to nothing
abbrev pub platform_bound : Run → List ℕ → Option ObjectId
platform_bound s name = if is_name_too_long name then None else maps.get s.world.names name

-- the object of a bound name, read as this kind
abbrev pub found_as : {A : Type 0} → Option ObjectId → ℕ → (List ℕ → Option A) → Act (ObjectId × A)
found_as None kind read s = refuse NAME_NOT_BOUND s
found_as (Some id) kind read s = and_then (get_as kind read id) (λ x. give (Ok (id, x))) s

-- the record under a platform name, with its id
abbrev pub record_under : {A : Type 0} → List ℕ → ℕ → (List ℕ → Option A) → Act (ObjectId × A)
record_under name kind read s = found_as (platform_bound s name) kind read s

-- the session record under a login name
abbrev pub session_under : List ℕ → Act (ObjectId × SessionRecord)
session_under name = record_under (session_name name) SESSION_KIND session_of

-- the channel record under a channel's name
abbrev pub channel_under : List ℕ → Act (ObjectId × ChannelRecord)
channel_under name = record_under (channel_name name) CHANNEL_KIND channel_of

-- the record of this very session: one that has another connection's number is not bound for it
abbrev pub own_record : Session → Act (ObjectId × SessionRecord)
own_record session = and_then (session_under session.name) (λ r. if nat_eq r.1.conn.0 session.conn.0 then give (Ok r) else refuse NAME_NOT_BOUND)

-- whether the session record that was found is this connection's
abbrev pub numbered : Option ObjectId → ConnNo → Act Bool
numbered None conn s = (Ok false, s)
numbered (Some id) conn s = and_then (get_as SESSION_KIND session_of id) (λ r. give (Ok (nat_eq r.conn.0 conn.0))) s

-- whether the session is recorded with its number
unfoldable pub is_connected : Session → Act Bool
is_connected session s = numbered (platform_bound s (session_name session.name)) session.conn s

-- the session that is recorded under a login name
unfoldable pub find_session : List ℕ → Act Session
find_session name s =
    if is_name_too_long (session_name name) then refuse TOO_LONG s
    else and_then (session_under name) (λ r. give (Ok (record { name = name; conn = r.1.conn }))) s

-- a message to a session that is connected
unfoldable pub session_send : Session → List ℕ → Act (Unit {0})
session_send session body = and_then (is_connected session) (λ connected. if connected then send session.conn (out.Message body) else refuse NAME_NOT_BOUND)

-- a new session's record, bound under its platform name
unfoldable pub new_record : Session → Act (Unit {0})
new_record session s =
    if is_name_too_long (session_name session.name) then refuse TOO_LONG s
    else if is_some (platform_bound s (session_name session.name)) then refuse NAME_EXISTS s
    else and_then (create SESSION_KIND (session_bytes (record { conn = session.conn; channels = [] }))) (λ id. bind (session_name session.name) id) s

-- the same on the platform's behalf, whoever calls
unfoldable pub open_record : Session → Act (Unit {0})
open_record session = within Platform (new_record session)

-- the record of a session that ends is unbound and removed
unfoldable pub close_record : Session → Act (Unit {0})
close_record session = within Platform (and_then (own_record session) (λ r. and_then (unbind (session_name session.name)) (λ _. remove r.0)))

-- a new channel with no member, bound under its platform name
unfoldable pub new_channel : List ℕ → Bool → Delivery → Act (Unit {0})
new_channel name listener delivery s =
    if is_name_too_long (channel_name name) then refuse TOO_LONG s
    else if is_some (platform_bound s (channel_name name)) then refuse NAME_EXISTS s
    else and_then (create CHANNEL_KIND (channel_bytes (record { listener = listener; delivery = delivery; members = [] }))) (λ id. bind (channel_name name) id) s

-- the same on the platform's behalf, whoever calls
unfoldable pub create_channel : List ℕ → Bool → Delivery → Act (Unit {0})
create_channel name listener delivery = within Platform (new_channel name listener delivery)

-- a channel that is bound
unfoldable pub get_channel : List ℕ → Act (Unit {0})
get_channel name s =
    if is_name_too_long (channel_name name) then refuse TOO_LONG s
    else and_then (bound (channel_name name)) (λ _. give (Ok tt)) s

-- whether a session is among the members
abbrev pub is_member : Session → List Session → Bool
is_member session members = list_any (same_session session) members

-- the members but for this session
abbrev pub without_member : Session → List Session → List Session
without_member session members = filter (λ m. not (same_session session m)) members

-- the channels' names but for this one
abbrev pub without_channel : List ℕ → List (List ℕ) → List (List ℕ)
without_channel name channels = filter (λ c. not (same_name name c)) channels

-- both records are saved, or neither where one would pass its length
abbrev pub save_both : ObjectId → List ℕ → ObjectId → List ℕ → Act (Unit {0})
save_both a x b y = if is_too_long x || is_too_long y then refuse TOO_LONG else and_then (save a x) (λ _. save b y)

-- a session joins a channel, given both records: both are saved, unless it is a member
abbrev pub join_records : List ℕ → Session → ObjectId × ChannelRecord → ObjectId × SessionRecord → Act (Unit {0})
join_records name session c r =
    if is_member session c.1.members then give (Ok tt)
    else save_both c.0 (channel_bytes (record (c.1) { members = c.1.members ++ session ∷ [] })) r.0 (session_bytes (record (r.1) { channels = r.1.channels ++ name ∷ [] }))

-- the session is put last among the members, and the channel last in the session's record; a second join changes nothing
unfoldable pub join : List ℕ → Session → Act (Unit {0})
join name session = within Platform (and_then (channel_under name) (λ c. and_then (own_record session) (λ r. join_records name session c r)))

-- a session leaves a channel, given both records: both are saved, if it is a member
abbrev pub leave_records : List ℕ → Session → ObjectId × ChannelRecord → ObjectId × SessionRecord → Act (Unit {0})
leave_records name session c r =
    if is_member session c.1.members
    then save_both c.0 (channel_bytes (record (c.1) { members = without_member session c.1.members })) r.0 (session_bytes (record (r.1) { channels = without_channel name r.1.channels }))
    else give (Ok tt)

-- both entries are taken away; a leave of one who is no member changes nothing
unfoldable pub leave : List ℕ → Session → Act (Unit {0})
leave name session = within Platform (and_then (channel_under name) (λ c. and_then (own_record session) (λ r. leave_records name session c r)))

-- the session record that was found, if it is this connection's
abbrev pub recorded_as : Option ObjectId → ConnNo → Act (Option (ObjectId × SessionRecord))
recorded_as None conn s = (Ok None, s)
recorded_as (Some id) conn s = and_then (get_as SESSION_KIND session_of id) (λ r. give (Ok (if nat_eq r.conn.0 conn.0 then Some (id, r) else None))) s

-- the session's record, where it is recorded with its number
abbrev pub record_if_connected : Session → Act (Option (ObjectId × SessionRecord))
record_if_connected session s = recorded_as (platform_bound s (session_name session.name)) session.conn s

-- the bytes of a session's record without the channel
abbrev pub bytes_without : List ℕ → SessionRecord → List ℕ
bytes_without name r = session_bytes (record r { channels = without_channel name r.channels })

-- the record that was found, if there is one, as it is without the channel: its id, and its bytes
abbrev pub without_it : List ℕ → Option (ObjectId × SessionRecord) → Act (Option (ObjectId × List ℕ))
without_it name None = give (Ok None)
without_it name (Some r) = if is_too_long (bytes_without name r.1) then refuse TOO_LONG else give (Ok (Some (r.0, bytes_without name r.1)))

-- the record of a session that is recorded with its number, as it is without the channel
abbrev pub record_without : List ℕ → Session → Act (Option (ObjectId × List ℕ))
record_without name session = and_then (record_if_connected session) (without_it name)

-- those of these members, in joining order; nothing is changed
abbrev pub records_without : List ℕ → List Session → Act (List (ObjectId × List ℕ))
records_without name [] = give (Ok [])
records_without name (m ∷ members) = and_then (record_without name m) (λ first. and_then (records_without name members) (λ rest. give (Ok (cons_option first rest))))

-- these objects have these bytes, one after another
abbrev pub save_each : List (ObjectId × List ℕ) → Act (Unit {0})
save_each [] = give (Ok tt)
save_each (one ∷ rest) = and_then (save one.0 one.1) (λ _. save_each rest)

-- all members leave a channel, if it has any: all records are looked at first, and saved afterwards
abbrev pub leave_members : List ℕ → ObjectId × ChannelRecord → List Session → Act (Unit {0})
leave_members name c [] = give (Ok tt)
leave_members name c (m ∷ members) = and_then (records_without name (m ∷ members)) (λ records. save_each ((c.0, channel_bytes (record (c.1) { members = [] })) ∷ records))

-- each member leaves, in joining order, or none; one whose session is not recorded with its number loses its place among the members alone
unfoldable pub leave_all : List ℕ → Act (Unit {0})
leave_all name = within Platform (and_then (channel_under name) (λ c. leave_members name c c.1.members))

-- the members, in joining order
unfoldable pub members : List ℕ → Act (List Session)
members name = and_then (channel_under name) (λ c. give (Ok c.1.members))

-- whether one may send: nobody in particular, or a member
abbrev pub is_sender : Option Session → List Session → Bool
is_sender None members = true
is_sender (Some session) members = is_member session members

-- one message to each member, in joining order, or to none
abbrev pub send_each : List Session → Out → Act (Unit {0})
send_each members message s =
    if nat_lt MESSAGES_MOST_COUNT (length s.outs + length members) then refuse TOO_MANY s
    else (Ok tt, record s { outs = s.outs ++ map (λ m. (m.conn, message)) members })

-- a message on a channel; nothing is sent for a sender who is no member
unfoldable pub channel_send : List ℕ → Option Session → List ℕ → Act (Unit {0})
channel_send name sender body =
    and_then (channel_under name) (λ c.
    if is_too_long body then refuse TOO_LONG
    else if is_sender sender c.1.members then send_each c.1.members (out.Channel name body)
    else give (Ok tt))
