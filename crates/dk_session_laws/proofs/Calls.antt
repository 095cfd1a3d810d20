-- Each of the platform's calls on sessions and channels that a game makes leaves the sessions as they were, in any mode.
use Rattle.std.proofs.Common.{◌≡◌, ℕ, ◌+◌, Bool, true, false, nat_lt, nat_eq, get_or, not, ◌||◌, is_some, if◌then◌else◌, All, map, Option, Some, None, List, [], ◌∷◌, ◌++◌, length, Ok, refl, sym, ap, subst, ◌∙◌, arith}
use Rattle.std.specs.FinMap.{get}
use Rattle.std.proofs.lemmas.List.Elements.{All-push, All-filter}
use Rattle.dk_types.specs.declared.mode.Mode.{Mode}
use Rattle.dk_types.specs.declared.mode.Mode.TheVariants.{Platform}
use Rattle.dk_types.specs.declared.number.ConnNo.{ConnNo}
use Rattle.dk_types.specs.declared.number.ObjectId.{ObjectId}
use Rattle.dk_types.specs.declared.object.Object.{Object}
use Rattle.dk_types.specs.declared.job.Session.{Session}
use Rattle.dk_types.specs.declared.job.Out.{Out}
use Rattle.dk_types.specs.declared.job.Out.TheVariants as out
use Rattle.dk_types.specs.declared.limits.TheConstants.{MESSAGES_MOST_COUNT}
use Rattle.dk_types.specs.Names.{IsName}
use Rattle.dk_types.specs.Fields.{IsU64}
use Rattle.dk_model.specs.declared.records.SessionRecord.{SessionRecord}
use Rattle.dk_model.specs.declared.records.ChannelRecord.{ChannelRecord}
use Rattle.dk_model.specs.declared.records.Delivery.{Delivery}
use Rattle.dk_model.specs.Records.{SESSION_KIND, CHANNEL_KIND, session_bytes, session_of, channel_bytes, channel_of, session_name, channel_name, is_name_too_long}
use Rattle.dk_model.specs.Runs as act
use Rattle.dk_model.specs.Runs.{Run, and_then, refuse, give, save, with_object, is_too_long, NAME_NOT_BOUND, NAME_EXISTS, TOO_LONG, TOO_MANY}
use Rattle.dk_model.specs.Platforms as does
use Rattle.dk_model.specs.Platforms.{platform_bound, numbered, is_member, is_sender, without_member, without_channel, same_name}
use Rattle.dk_model.proofs.Maps.{some_is}
use Rattle.dk_session_laws.specs.Sessions.{IsRecord, IsStanding, IsKept, EndsBy, KeepsAt, Keeps}
use Rattle.dk_session_laws.proofs.Ends.{Reads, IsReadAs, ends_if, ends_if_at, ends_refuse, ends_give, reads_then, reads_more, reads_give, reads_under, reads_own}
use Rattle.dk_session_laws.proofs.Kept.{record_there, kept_itself, kept_record}
use Rattle.dk_session_laws.proofs.Keeps.{reads_keep, keeps_on, keeps_then, keeps_give, keeps_refuse, keeps_if, keeps_if_at, keeps_looks, keeps_inside, stands_in, makes_other, saves_other, binds_other, keeps_bound, keeps_send, keeps_sending, keeps_get_as}
use Rattle.dk_session_laws.proofs.Spelled.{read_again}

-- ---- calls that read

keeps_numbered : {mode : Mode} (o : Option ObjectId) (conn : ConnNo) → Keeps mode (numbered o conn)
keeps_numbered None conn = record { at = λ s m st. record { so = kept_itself s st.fresh } }
keeps_numbered (Some id) conn = keeps_then (keeps_get_as SESSION_KIND session_of id) (λ r. keeps_give (Ok (nat_eq r.conn.0 conn.0)))

-- `is_connected`
pub keeps_is_connected : {mode : Mode} (session : Session) → Keeps mode (does.is_connected session)
unfolding does.is_connected
keeps_is_connected session = keeps_looks (λ s. platform_bound s (session_name session.name)) (λ o. numbered o session.conn) (λ o. keeps_numbered o session.conn)

-- a record under a platform name
pub keeps_under : {A : Type 0} {mode : Mode} (name : List ℕ) (kind : ℕ) (read : List ℕ → Option A) → Keeps mode (does.record_under name kind read)
keeps_under name kind read = record { at = λ s m st. reads_keep (reads_under s name kind read) st.fresh }

-- `find_session`
pub keeps_find_session : {mode : Mode} (name : List ℕ) → Keeps mode (does.find_session name)
unfolding does.find_session
keeps_find_session name =
    keeps_if_at (is_name_too_long (session_name name)) (λ _. keeps_refuse TOO_LONG) (λ _. keeps_then (keeps_under (session_name name) SESSION_KIND session_of) (λ r. keeps_give (Ok (record { name = name; conn = r.1.conn }))))

-- its session has the name that was asked for
pub reads_find_session : (s : Run) (name : List ℕ) → Reads (λ (old : Session). old.name ≡ name) s (does.find_session name)
unfolding does.find_session
reads_find_session s name = record {
  so = elim (is_name_too_long (session_name name)) as (λ b. (let p = if b then refuse TOO_LONG s else and_then (does.session_under name) (λ r. give (Ok (record { name = name; conn = r.1.conn }))) s in EndsBy (λ (old : Session) t. (t ≡ s) × (old.name ≡ name)) p.0 p.1)) [
    | true ↦ tt
    | false ↦ (reads_more {Q = λ (old : Session). old.name ≡ name} (reads_under s (session_name name) SESSION_KIND session_of) (λ r is. reads_give (record { name = name; conn = r.1.conn }) refl)).so
  ];
}

-- `session_send`
pub keeps_session_send : {mode : Mode} (session : Session) (body : List ℕ) → Keeps mode (does.session_send session body)
unfolding does.session_send
keeps_session_send session body = keeps_then (keeps_is_connected session) (λ connected. keeps_if connected (λ _. keeps_send session.conn (out.Message body)) (λ _. keeps_refuse NAME_NOT_BOUND))

-- `get_channel`
pub keeps_get_channel : {mode : Mode} (name : List ℕ) → Keeps mode (does.get_channel name)
unfolding does.get_channel
keeps_get_channel name = keeps_if_at (is_name_too_long (channel_name name)) (λ _. keeps_refuse TOO_LONG) (λ _. keeps_then (keeps_bound (channel_name name)) (λ _. keeps_give (Ok tt)))

-- `members`
pub keeps_members : {mode : Mode} (name : List ℕ) → Keeps mode (does.members name)
unfolding does.members
keeps_members name = keeps_then (keeps_under (channel_name name) CHANNEL_KIND channel_of) (λ c. keeps_give (Ok c.1.members))

keeps_send_each : {mode : Mode} (members : List Session) (message : Out) → Keeps mode (does.send_each members message)
keeps_send_each members message = record {
  at = λ s m st. ends_if_at (λ u. nat_lt MESSAGES_MOST_COUNT (length u.outs + length members)) (λ _. ends_refuse TOO_MANY) (λ _. record { so = keeps_sending s (s.outs ++ map (λ m. (m.conn, message)) members) st });
}

-- `channel_send`
pub keeps_channel_send : {mode : Mode} (name : List ℕ) (sender : Option Session) (body : List ℕ) → Keeps mode (does.channel_send name sender body)
unfolding does.channel_send
keeps_channel_send name sender body =
    keeps_then (keeps_under (channel_name name) CHANNEL_KIND channel_of) (λ c.
    keeps_if (is_too_long body) (λ _. keeps_refuse TOO_LONG) (λ _. keeps_if (is_sender sender c.1.members) (λ _. keeps_send_each c.1.members (out.Channel name body)) (λ _. keeps_give (Ok tt))))

-- ---- calls that write

no_channel : (login name : List ℕ) → channel_name name ≡ session_name login → ⊥
no_channel login name e = let second : 99 ≡ 115 = ap (λ (bs : List ℕ). get_or bs 1 0) e in omega (arith, second)

not_sessions : CHANNEL_KIND ≡ SESSION_KIND → ⊥
not_sessions e = omega (arith, e)

-- `create_channel`
pub keeps_create_channel : {mode : Mode} (name : List ℕ) (listener : Bool) (delivery : Delivery) → Keeps mode (does.create_channel name listener delivery)
unfolding does.create_channel does.new_channel
keeps_create_channel name listener delivery = record {
  at = λ s m st.
      let inside = stands_in {s = s} Platform st in
      keeps_inside Platform (ends_if_at (λ u. is_name_too_long (channel_name name)) (λ _. ends_refuse TOO_LONG) (λ _. ends_if_at (λ u. is_some (platform_bound u (channel_name name))) (λ _. ends_refuse NAME_EXISTS) (λ _.
      keeps_on inside (makes_other (record s { mode = Platform }) CHANNEL_KIND (channel_bytes (record { listener = listener; delivery = delivery; members = [] })) inside (λ _ k. not_sessions k))
      (λ id t stands kept. binds_other t (channel_name name) id stands (λ _ login e. no_channel login name e)))));
}

-- what is read as a session's record is one
pub record_read : (s : Run) (id : ObjectId) (r : SessionRecord) → IsStanding s → IsReadAs s SESSION_KIND session_of id r → IsRecord s.world id r
record_read s id r st is = record_there s.world st.sessions id is.object r is.there is.of_kind is.value

-- the object of a record that is saved
record_at : (s : Run) (id : ObjectId) (x y : SessionRecord) (o : Option Object) (at : IsRecord s.world id x) → get s.world.objects id ≡ o → IsStanding s → y.conn.0 ≡ x.conn.0 → All IsName y.channels → session_of (session_bytes y) ≡ Some y
    → EndsBy (λ (u : Unit {0}) t. IsKept s t) ((act.change_found o id (λ object. Some (record { kind = object.kind; bytes = session_bytes y })) s).0) ((act.change_found o id (λ object. Some (record { kind = object.kind; bytes = session_bytes y })) s).1)
record_at s id x y None at e st number names read = tt
record_at s id x y (Some object) at e st number names read =
    let same : at.object ≡ object = some_is at.object object (sym at.there ∙ e) in
    let here : IsRecord s.world id x = record {
      object = object;
      there = e;
      kind = ap (λ (o : Object). o.kind) (sym same) ∙ at.kind;
      read = ap (λ (o : Object). session_of o.bytes) (sym same) ∙ at.read;
      number = at.number;
      channels = at.channels;
      below = at.below;
    } in
    elim (act.is_reserved_kind s.mode object.kind) as (λ b. (let p = if b then refuse {A = Unit {0}} act.RESERVED s else (Ok tt, with_object s id (Some (record { kind = object.kind; bytes = session_bytes y }))) in EndsBy (λ (u : Unit {0}) t. IsKept s t) p.0 p.1)) [
      | true ↦ tt
      | false ↦ kept_record s id x y (session_bytes y) here st number names read
    ]

-- a session's record is saved, with the same number
pub saves_record : (s : Run) (id : ObjectId) (x y : SessionRecord) → IsStanding s → IsRecord s.world id x → y.conn.0 ≡ x.conn.0 → All IsName y.channels → KeepsAt s (save id (session_bytes y))
unfolding save
saves_record s id x y st at number names =
    ends_if_at (λ u. is_too_long (session_bytes y)) (λ _. ends_refuse TOO_LONG) (λ short. record { so = record_at s id x y (get s.world.objects id) at refl st number names (read_again y (subst IsU64 (sym number) at.number) names short) })

-- an object that was read as a channel's record is no session's
pub channel_read : (s : Run) (id : ObjectId) (c : ChannelRecord) → IsReadAs s CHANNEL_KIND channel_of id c → (object : Object) → get s.world.objects id ≡ Some object → object.kind ≡ SESSION_KIND → ⊥
channel_read s id c is object e k = not_sessions (sym is.of_kind ∙ ap (λ (o : Object). o.kind) (some_is is.object object (sym is.there ∙ e)) ∙ k)

-- a channel's record and a session's are saved
saves_both : (s : Run) (a : ObjectId) (x : List ℕ) (b : ObjectId) (r y : SessionRecord) → IsStanding s → ((object : Object) → get s.world.objects a ≡ Some object → object.kind ≡ SESSION_KIND → ⊥) → IsRecord s.world b r → y.conn.0 ≡ r.conn.0 → All IsName y.channels
    → KeepsAt s (does.save_both a x b (session_bytes y))
saves_both s a x b r y st other at number names =
    ends_if (is_too_long x || is_too_long (session_bytes y)) (λ _. ends_refuse TOO_LONG) (λ _.
    keeps_on st (saves_other s a x st other) (λ _ t stands kept. let now = kept.same.onward b r at in saves_record t b now.0 y stands now.1 (number ∙ sym now.2) names))

-- `join` needs the channel's name
pub keeps_join : {mode : Mode} (name : List ℕ) (session : Session) → IsName name → Keeps mode (does.join name session)
unfolding does.join
keeps_join name session named = record {
  at = λ s m st.
      let p : Run = record s { mode = Platform } in
      let inside = stands_in {s = s} Platform st in
      keeps_inside Platform (reads_then (reads_under p (channel_name name) CHANNEL_KIND channel_of) (λ c under. reads_then (reads_own p session) (λ r own.
      let at = record_read p r.0 r.1 inside own.under.value in
      ends_if (is_member session c.1.members) (λ _. ends_give tt (kept_itself p inside.fresh)) (λ _.
      saves_both p c.0 (channel_bytes (record (c.1) { members = c.1.members ++ session ∷ [] })) r.0 r.1 (record (r.1) { channels = r.1.channels ++ name ∷ [] }) inside (channel_read p c.0 c.1 under.value) at refl
      (All-push IsName r.1.channels name at.channels named)))));
}

-- the channels but for one are names still
pub still_names : (name : List ℕ) (r : SessionRecord) → All IsName r.channels → All IsName (without_channel name r.channels)
still_names name r names = All-filter (λ c. not (same_name name c)) IsName r.channels names

-- `leave`
pub keeps_leave : {mode : Mode} (name : List ℕ) (session : Session) → Keeps mode (does.leave name session)
unfolding does.leave
keeps_leave name session = record {
  at = λ s m st.
      let p : Run = record s { mode = Platform } in
      let inside = stands_in {s = s} Platform st in
      keeps_inside Platform (reads_then (reads_under p (channel_name name) CHANNEL_KIND channel_of) (λ c under. reads_then (reads_own p session) (λ r own.
      let at = record_read p r.0 r.1 inside own.under.value in
      ends_if (is_member session c.1.members)
      (λ _. saves_both p c.0 (channel_bytes (record (c.1) { members = without_member session c.1.members })) r.0 r.1 (record (r.1) { channels = without_channel name r.1.channels }) inside (channel_read p c.0 c.1 under.value) at refl
      (still_names name r.1 at.channels))
      (λ _. ends_give tt (kept_itself p inside.fresh)))));
}
