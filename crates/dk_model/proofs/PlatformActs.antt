-- Each of the platform's calls on sessions and channels is lawful.
use Rattle.std.proofs.Common.{◌≡◌, ℕ, ◌+◌, ◌<◌, ◌≤◌, ◌^◌, arith, Bool, true, false, cond, if◌then◌else◌, All, map, not, ◌||◌, nat_eq, nat_lt, is_some, ltb-false, Option, Some, None, List, [], ◌∷◌, ◌++◌, length, length-append, refl}
use Rattle.std.specs.FinMap as maps
use Rattle.std.specs.List.{cons_option}
use Rattle.std.proofs.lemmas.List.{length-map}
use Rattle.std.proofs.lemmas.List.Elements.{All-nil, All-cons, All-head, All-tail, All-push, All-append, All-map, All-filter}
use Rattle.dk_types.specs.declared.number.ObjectId.{ObjectId}
use Rattle.dk_types.specs.declared.number.ConnNo.{ConnNo}
use Rattle.dk_types.specs.declared.job.Session.{Session}
use Rattle.dk_types.specs.declared.job.Out.{Out}
use Rattle.dk_types.specs.declared.job.Out.TheVariants as out
use Rattle.dk_types.specs.declared.limits.TheConstants.{MESSAGES_MOST_COUNT}
use Rattle.dk_types.specs.Names.{IsName}
use Rattle.dk_types.specs.declared.mode.Mode.TheVariants.{Platform}
use Rattle.dk_model.specs.Runs.{Run, and_then, refuse, create, bind, is_too_long, NAME_NOT_BOUND, TOO_LONG, NAME_EXISTS}
use Rattle.dk_model.specs.Lawful.{HasShortBody, IsFit}
use Rattle.dk_model.specs.declared.records.SessionRecord.{SessionRecord}
use Rattle.dk_model.specs.declared.records.ChannelRecord.{ChannelRecord}
use Rattle.dk_model.specs.declared.records.Delivery.{Delivery}
use Rattle.dk_model.specs.Records.{SESSION_KIND, CHANNEL_KIND, session_bytes, session_of, channel_bytes, channel_of, session_name, channel_name, is_name_too_long}
use Rattle.dk_model.specs.Platforms as does
use Rattle.dk_model.specs.Platforms.{platform_bound, found_as, is_member, without_member, without_channel, same_session, same_name, is_sender, numbered, recorded_as, record_if_connected, bytes_without, without_it, record_without, records_without, save_each, leave_members}
use Rattle.dk_model.proofs.Acts.{Anything, AreBytes, IsId, IsLawful, stays, refused, at_if, lawful_then, lawful_give, lawful_done, lawful_refuse, lawful_if, lawful_if_at, lawful_looks, lawful_within}
use Rattle.dk_model.proofs.Operations.{lawful_create, lawful_save, lawful_remove, lawful_bound, lawful_bind, lawful_unbind, lawful_send, sent_at}
use Rattle.dk_model.proofs.ReferenceActs.{lawful_get_as}
use Rattle.dk_model.proofs.RecordFacts.{HasChannels, HasMembers, IsNamed, session_fits, channel_fits, bytes_of_session, bytes_of_channel, session_named, channel_named}

-- the id, where there is one, has a run's number and a place
abbrev pub IsSomeId : Option ObjectId → Type 0
IsSomeId None = Unit {0}
IsSomeId (Some id) = IsId id

-- what a name is bound to in a fit run
pub bound_says : (s : Run) (name : List ℕ) → IsFit s → IsSomeId (maps.get s.world.names name)
bound_says s name f = elim (maps.get s.world.names name) as (λ o. maps.get s.world.names name ≡ o → IsSomeId o) [
  | None ↦ λ _. tt
  | Some id ↦ λ e. (f.world.names name id e).1
] refl

-- what a platform name is bound to in a fit run
pub platform_says : (s : Run) (name : List ℕ) → IsFit s → IsSomeId (platform_bound s name)
platform_says s name f = elim (is_name_too_long name) as (λ b. IsSomeId (cond b None (maps.get s.world.names name))) [
  | true ↦ tt
  | false ↦ bound_says s name f
]

-- a session's record and its id, where there is one
abbrev pub HasRecord : Option (ObjectId × SessionRecord) → Type 0
HasRecord None = Unit {0}
HasRecord (Some p) = IsId p.0 × HasChannels p.1

record_told : (b : Bool) (id : ObjectId) (r : SessionRecord) → IsId id → HasChannels r → HasRecord (if b then Some (id, r) else None)
record_told true id r is has = (is, has)
record_told false id r is has = tt

lawful_found_as : {A Needs : Type 0} {Has : A → Type 0} (o : Option ObjectId) (kind : ℕ) (read : List ℕ → Option A) → ((bytes : List ℕ) (x : A) → AreBytes bytes → read bytes ≡ Some x → Has x)
    → IsLawful (Needs × IsSomeId o) (λ p. IsId p.0 × Has p.1) (found_as o kind read)
lawful_found_as None kind read why = lawful_refuse NAME_NOT_BOUND
lawful_found_as (Some id) kind read why = lawful_then (lawful_get_as kind read id why) (λ x. lawful_give (id, x) (λ n. (n.0.1, n.1)))

-- `record_under` needs nothing; its id has a run's number and a place, and its record has what each has that is read from bytes
pub lawful_record_under : {A Needs : Type 0} {Has : A → Type 0} (name : List ℕ) (kind : ℕ) (read : List ℕ → Option A) → ((bytes : List ℕ) (x : A) → AreBytes bytes → read bytes ≡ Some x → Has x)
    → IsLawful Needs (λ (p : ObjectId × A). IsId p.0 × Has p.1) (does.record_under name kind read)
lawful_record_under name kind read why = lawful_looks (λ s. platform_bound s name) (λ o. found_as o kind read) IsSomeId (λ s f. platform_says s name f) (λ o. lawful_found_as o kind read why)

-- `session_under` needs nothing; the channels of its record are names
pub lawful_session_under : {Needs : Type 0} (name : List ℕ) → IsLawful Needs (λ (p : ObjectId × SessionRecord). IsId p.0 × HasChannels p.1) (does.session_under name)
lawful_session_under name = lawful_record_under (session_name name) SESSION_KIND session_of session_fits

-- `channel_under` needs nothing; the members of its record have names
pub lawful_channel_under : {Needs : Type 0} (name : List ℕ) → IsLawful Needs (λ (p : ObjectId × ChannelRecord). IsId p.0 × HasMembers p.1) (does.channel_under name)
lawful_channel_under name = lawful_record_under (channel_name name) CHANNEL_KIND channel_of channel_fits

-- `own_record` needs nothing; the channels of its record are names
pub lawful_own_record : {Needs : Type 0} (session : Session) → IsLawful Needs (λ (p : ObjectId × SessionRecord). IsId p.0 × HasChannels p.1) (does.own_record session)
lawful_own_record session = lawful_then (lawful_session_under session.name) (λ r. lawful_if (nat_eq r.1.conn.0 session.conn.0) (lawful_give r (λ n. n.0.1)) (lawful_refuse NAME_NOT_BOUND))

lawful_numbered : {Needs : Type 0} (o : Option ObjectId) (conn : ConnNo) → IsLawful (Needs × IsSomeId o) Anything (numbered o conn)
lawful_numbered None conn = record { at = λ s. stays s _ (λ n f. tt) }
lawful_numbered (Some id) conn = lawful_then (lawful_get_as SESSION_KIND session_of id session_fits) (λ r. lawful_done (nat_eq r.conn.0 conn.0))

-- `is_connected` needs nothing
pub lawful_is_connected : {Needs : Type 0} (session : Session) → IsLawful Needs Anything (does.is_connected session)
unfolding does.is_connected
lawful_is_connected session = lawful_looks (λ s. platform_bound s (session_name session.name)) (λ o. numbered o session.conn) IsSomeId (λ s f. platform_says s (session_name session.name) f) (λ o. lawful_numbered o session.conn)

-- `find_session` needs nothing; its session has the name that was asked for
pub lawful_find_session : {Needs : Type 0} (name : List ℕ) → IsLawful Needs (λ (session : Session). session.name ≡ name) (does.find_session name)
unfolding does.find_session
lawful_find_session name = lawful_if_at (is_name_too_long (session_name name)) (lawful_refuse TOO_LONG) (lawful_then (lawful_session_under name) (λ r. lawful_give (record { name = name; conn = r.1.conn }) (λ _. refl)))

-- `session_send` needs nothing
pub lawful_session_send : {Needs : Type 0} (session : Session) (body : List ℕ) → IsLawful Needs Anything (does.session_send session body)
unfolding does.session_send
lawful_session_send session body = lawful_then (lawful_is_connected session) (λ connected. lawful_if connected (lawful_send session.conn (out.Message body)) (lawful_refuse NAME_NOT_BOUND))

-- a record is made, and bound under a name that is free
lawful_made : {Needs : Type 0} (name : List ℕ) (kind : ℕ) (bytes : List ℕ) → (Needs → IsName name × (kind < 2 ^ 16) × AreBytes bytes)
    → IsLawful Needs Anything (λ s. if is_some (platform_bound s name) then refuse NAME_EXISTS s else and_then (create kind bytes) (λ id. bind name id) s)
lawful_made name kind bytes why = lawful_looks (λ s. is_some (platform_bound s name)) (λ b s. if b then refuse NAME_EXISTS s else and_then (create kind bytes) (λ id. bind name id) s) Anything (λ _ _. tt)
    (λ b. lawful_if_at b (lawful_refuse NAME_EXISTS) (lawful_then (lawful_create kind bytes (λ n. let w = why n.0.0 in (w.1, w.2))) (λ id. lawful_bind name id (λ n. ((why n.0.0.0).0, n.1)))))

lawful_new_record : {Needs : Type 0} (session : Session) → (Needs → IsNamed session) → IsLawful Needs Anything (does.new_record session)
unfolding does.new_record
lawful_new_record session why = lawful_if_at (is_name_too_long (session_name session.name)) (lawful_refuse TOO_LONG)
    (lawful_made (session_name session.name) SESSION_KIND (session_bytes (record { conn = session.conn; channels = [] })) (λ n.
    (session_named session.name (why n.0) n.1, omega arith, bytes_of_session (record { conn = session.conn; channels = [] }) (All-nil IsName))))

-- `open_record` needs a session's name
pub lawful_open_record : {Needs : Type 0} (session : Session) → (Needs → IsNamed session) → IsLawful Needs Anything (does.open_record session)
unfolding does.open_record
lawful_open_record session why = lawful_within Platform (lawful_new_record session why)

-- `close_record` needs nothing
pub lawful_close_record : {Needs : Type 0} (session : Session) → IsLawful Needs Anything (does.close_record session)
unfolding does.close_record
lawful_close_record session = lawful_within Platform (lawful_then (lawful_own_record session) (λ r. lawful_then (lawful_unbind (session_name session.name)) (λ _. lawful_remove r.0)))

lawful_new_channel : {Needs : Type 0} (name : List ℕ) (listener : Bool) (delivery : Delivery) → (Needs → IsName name) → IsLawful Needs Anything (does.new_channel name listener delivery)
unfolding does.new_channel
lawful_new_channel name listener delivery why = lawful_if_at (is_name_too_long (channel_name name)) (lawful_refuse TOO_LONG)
    (lawful_made (channel_name name) CHANNEL_KIND (channel_bytes (record { listener = listener; delivery = delivery; members = [] })) (λ n.
    (channel_named name (why n.0) n.1, omega arith, bytes_of_channel (record { listener = listener; delivery = delivery; members = [] }) (All-nil IsNamed))))

-- `create_channel` needs a name
pub lawful_create_channel : {Needs : Type 0} (name : List ℕ) (listener : Bool) (delivery : Delivery) → (Needs → IsName name) → IsLawful Needs Anything (does.create_channel name listener delivery)
unfolding does.create_channel
lawful_create_channel name listener delivery why = lawful_within Platform (lawful_new_channel name listener delivery why)

-- `get_channel` needs nothing
pub lawful_get_channel : {Needs : Type 0} (name : List ℕ) → IsLawful Needs Anything (does.get_channel name)
unfolding does.get_channel
lawful_get_channel name = lawful_if_at (is_name_too_long (channel_name name)) (lawful_refuse TOO_LONG) (lawful_then (lawful_bound (channel_name name)) (λ _. lawful_done tt))

lawful_save_both : {Needs : Type 0} (a : ObjectId) (x : List ℕ) (b : ObjectId) (y : List ℕ) → (Needs → AreBytes x × AreBytes y) → IsLawful Needs Anything (does.save_both a x b y)
lawful_save_both a x b y why = lawful_if (is_too_long x || is_too_long y) (lawful_refuse TOO_LONG) (lawful_then (lawful_save a x (λ n. (why n.0).0)) (λ _. lawful_save b y (λ n. (why n.0.0).1)))

-- `join` needs the channel's name and the session's
pub lawful_join : {Needs : Type 0} (name : List ℕ) (session : Session) → (Needs → IsName name × IsNamed session) → IsLawful Needs Anything (does.join name session)
unfolding does.join
lawful_join name session why = lawful_within Platform (lawful_then (lawful_channel_under name) (λ c. lawful_then (lawful_own_record session) (λ r.
    lawful_if (is_member session c.1.members) (lawful_done tt) (lawful_save_both c.0 (channel_bytes (record (c.1) { members = c.1.members ++ session ∷ [] })) r.0 (session_bytes (record (r.1) { channels = r.1.channels ++ name ∷ [] })) (λ n. (
      bytes_of_channel (record (c.1) { members = c.1.members ++ session ∷ [] }) (All-push IsNamed c.1.members session n.0.0.1.1 (why n.0.0.0).1),
      bytes_of_session (record (r.1) { channels = r.1.channels ++ name ∷ [] }) (All-push IsName r.1.channels name n.0.1.1 (why n.0.0.0).0),
    ))))))

-- `leave` needs nothing
pub lawful_leave : {Needs : Type 0} (name : List ℕ) (session : Session) → IsLawful Needs Anything (does.leave name session)
unfolding does.leave
lawful_leave name session = lawful_within Platform (lawful_then (lawful_channel_under name) (λ c. lawful_then (lawful_own_record session) (λ r.
    lawful_if (is_member session c.1.members)
    (lawful_save_both c.0 (channel_bytes (record (c.1) { members = without_member session c.1.members })) r.0 (session_bytes (record (r.1) { channels = without_channel name r.1.channels })) (λ n. (
      bytes_of_channel (record (c.1) { members = without_member session c.1.members }) (All-filter (λ m. not (same_session session m)) IsNamed c.1.members n.0.0.1.1),
      bytes_of_session (record (r.1) { channels = without_channel name r.1.channels }) (All-filter (λ c. not (same_name name c)) IsName r.1.channels n.0.1.1),
    )))
    (lawful_done tt))))

lawful_recorded_as : {Needs : Type 0} (o : Option ObjectId) (conn : ConnNo) → IsLawful (Needs × IsSomeId o) HasRecord (recorded_as o conn)
lawful_recorded_as None conn = record { at = λ s. stays s _ (λ n f. tt) }
lawful_recorded_as (Some id) conn = lawful_then (lawful_get_as SESSION_KIND session_of id session_fits) (λ r. lawful_give (if nat_eq r.conn.0 conn.0 then Some (id, r) else None) (λ n. record_told (nat_eq r.conn.0 conn.0) id r n.0.1 n.1))

lawful_record_if : {Needs : Type 0} (session : Session) → IsLawful Needs HasRecord (record_if_connected session)
lawful_record_if session = lawful_looks (λ s. platform_bound s (session_name session.name)) (λ o. recorded_as o session.conn) IsSomeId (λ s f. platform_says s (session_name session.name) f) (λ o. lawful_recorded_as o session.conn)

-- each is of numbers that are bytes
abbrev AllBytes : List (ObjectId × List ℕ) → Type 0
AllBytes records = All (λ p. AreBytes p.1) records

-- the same, where there is one
abbrev SomeBytes : Option (ObjectId × List ℕ) → Type 0
SomeBytes None = Unit {0}
SomeBytes (Some p) = AreBytes p.1

lawful_without_it : {Needs : Type 0} (name : List ℕ) (o : Option (ObjectId × SessionRecord)) → IsLawful (Needs × HasRecord o) SomeBytes (without_it name o)
lawful_without_it name None = lawful_give None (λ _. tt)
lawful_without_it name (Some r) = lawful_if (is_too_long (bytes_without name r.1)) (lawful_refuse TOO_LONG) (lawful_give (Some (r.0, bytes_without name r.1)) (λ n.
    bytes_of_session (record (r.1) { channels = without_channel name r.1.channels }) (All-filter (λ c. not (same_name name c)) IsName r.1.channels n.0.1.1)))

lawful_record_without : {Needs : Type 0} (name : List ℕ) (session : Session) → IsLawful Needs SomeBytes (record_without name session)
lawful_record_without name session = lawful_then (lawful_record_if session) (λ o. lawful_without_it name o)

all_bytes : (first : Option (ObjectId × List ℕ)) (rest : List (ObjectId × List ℕ)) → SomeBytes first → AllBytes rest → AllBytes (cons_option first rest)
all_bytes None rest one all = all
all_bytes (Some p) rest one all = All-cons (λ p. AreBytes p.1) p rest one all

lawful_records_without : {Needs : Type 0} (name : List ℕ) (members : List Session) → IsLawful Needs AllBytes (records_without name members)
lawful_records_without name [] = lawful_give [] (λ _. All-nil _)
lawful_records_without name (m ∷ members) = lawful_then (lawful_record_without name m) (λ first. lawful_then (lawful_records_without name members) (λ rest.
    lawful_give (cons_option first rest) (λ n. all_bytes first rest n.0.1 n.1)))

lawful_save_each : {Needs : Type 0} (records : List (ObjectId × List ℕ)) → (Needs → AllBytes records) → IsLawful Needs Anything (save_each records)
lawful_save_each [] why = lawful_done tt
lawful_save_each (one ∷ rest) why = lawful_then (lawful_save one.0 one.1 (λ n. All-head (λ p. AreBytes p.1) one rest (why n))) (λ _. lawful_save_each rest (λ n. All-tail (λ p. AreBytes p.1) one rest (why n.0)))

lawful_leave_members : {Needs : Type 0} (name : List ℕ) (c : ObjectId × ChannelRecord) (members : List Session) → IsLawful Needs Anything (leave_members name c members)
lawful_leave_members name c [] = lawful_done tt
lawful_leave_members name c (m ∷ members) = lawful_then (lawful_records_without name (m ∷ members)) (λ records. lawful_save_each ((c.0, channel_bytes (record (c.1) { members = [] })) ∷ records) (λ n.
    All-cons (λ p. AreBytes p.1) (c.0, channel_bytes (record (c.1) { members = [] })) records (bytes_of_channel (record (c.1) { members = [] }) (All-nil IsNamed)) n.1))

-- `leave_all` needs nothing
pub lawful_leave_all : {Needs : Type 0} (name : List ℕ) → IsLawful Needs Anything (does.leave_all name)
unfolding does.leave_all
lawful_leave_all name = lawful_within Platform (lawful_then (lawful_channel_under name) (λ c. lawful_leave_members name c c.1.members))

-- `members` needs nothing; each of them has a name
pub lawful_members : {Needs : Type 0} (name : List ℕ) → IsLawful Needs (All IsNamed) (does.members name)
unfolding does.members
lawful_members name = lawful_then (lawful_channel_under name) (λ c. lawful_give c.1.members (λ n. n.1.1))

each_sent : (outs : List (ConnNo × Out)) (members : List Session) (message : Out) → length outs + length members ≤ MESSAGES_MOST_COUNT → length (outs ++ map (λ m. (m.conn, message)) members) ≤ MESSAGES_MOST_COUNT
each_sent outs members message few = omega (arith, few, length-append outs (map (λ m. (m.conn, message)) members), length-map {B = ConnNo × Out} members (λ m. (m.conn, message)))

lawful_send_each : {Needs : Type 0} (members : List Session) (message : Out) → (Needs → HasShortBody message) → IsLawful Needs Anything (does.send_each members message)
lawful_send_each members message short = record {
  at = λ s. at_if (nat_lt MESSAGES_MOST_COUNT (length s.outs + length members)) (λ _. refused s _) (λ few. sent_at s (map (λ m. (m.conn, message)) members) (each_sent s.outs members message (ltb-false _ _ few)) (λ n f.
      All-append (λ o. HasShortBody o.1) s.outs (map (λ m. (m.conn, message)) members) f.bodies
      (All-map (λ o. HasShortBody o.1) (λ m. (m.conn, message)) members (λ _ _ _. short n))));
}

-- `channel_send` needs nothing
pub lawful_channel_send : {Needs : Type 0} (name : List ℕ) (sender : Option Session) (body : List ℕ) → IsLawful Needs Anything (does.channel_send name sender body)
unfolding does.channel_send
lawful_channel_send name sender body = lawful_then (lawful_channel_under name) (λ c.
    lawful_if (is_too_long body) (lawful_refuse TOO_LONG) (lawful_if (is_sender sender c.1.members) (lawful_send_each c.1.members (out.Channel name body) (λ n. ltb-false _ _ n.0.1)) (lawful_done tt)))
