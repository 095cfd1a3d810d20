-- What the refusals of a leave of all members tell: of the channel's record, or of the record of the first member over which it is refused.
use Rattle.std.specs.Prelude.{◌≡◌, ◌⊎◌, ℕ, ◌==◌, Option, Some, None, List, [], ◌∷◌, length, drop, nat_eq, false, if◌then◌else◌}
use Rattle.std.specs.Option.{option_or}
use Rattle.std.specs.FinMap.{get}
use Rattle.dk_types.specs.declared.number.ConnNo.{ConnNo}
use Rattle.dk_types.specs.declared.number.ObjectId.{ObjectId}
use Rattle.dk_types.specs.declared.object.Object.{Object}
use Rattle.dk_types.specs.declared.item.Item.{Item}
use Rattle.dk_types.specs.declared.item.Item.TheVariants as ask
use Rattle.dk_types.specs.declared.job.Session.{Session}
use Rattle.dk_model.specs.declared.records.SessionRecord.{SessionRecord}
use Rattle.dk_model.specs.declared.records.ChannelRecord.{ChannelRecord}
use Rattle.dk_model.specs.DurableWorlds.{DurableWorld, Agrees}
use Rattle.dk_model.specs.Runs.{is_too_long}
use Rattle.dk_model.specs.Records.{SESSION_KIND, session_of, session_name, channel_of, channel_name}
use Rattle.dk_model.specs.Platforms.{bytes_without}
use Rattle.dk_overlay.specs.ReadsAndWrites.{ReadsAndWrites}
use Rattle.dk_txn.specs.Current.{current}
use Rattle.dk_txn.specs.declared.refusal.Refusal.{Refusal}
use Rattle.dk_txn.specs.declared.refusal.Refusal.TheVariants as refusal
use Rattle.dk_txn.specs.Does.{Stands}
use Rattle.dk_refs.specs.RecordAsks.{IsOfRecord}
use Rattle.dk_refs.specs.Telling.{kind_at, kind_under, bound_to, value_at, value_under}
use Rattle.dk_channels.specs.BothRecords.{other_kind}

-- what is found of the first of these members of whom it is found
abbrev pub first_of : (Session → DurableWorld → Option ℕ) → List Session → DurableWorld → Option ℕ
first_of find [] world = None
first_of find (m ∷ members) world = option_or (find m world) (first_of find members world)

-- a kind that is not a session's
abbrev pub not_session : Option ℕ → Option ℕ
not_session None = None
not_session (Some kind) = if kind == SESSION_KIND then None else Some kind

-- the kind of the object that a member's platform name leads to, where it is not a session's
abbrev pub wrong_kind_of : Session → DurableWorld → Option ℕ
wrong_kind_of m world = not_session (kind_under (session_name m.name) world)

-- a record, where the object's kind is a session's
abbrev pub if_session : Option ℕ → Option SessionRecord → Option SessionRecord
if_session None found = None
if_session (Some kind) found = if kind == SESSION_KIND then found else None

-- the session's record that an id names in a world, where there is one
abbrev pub session_at : Option ObjectId → DurableWorld → Option SessionRecord
session_at o world = if_session (kind_at o world) (value_at session_of o world)

-- how long bytes are, where they are too long
abbrev pub length_if_long : List ℕ → Option ℕ
length_if_long bytes = if is_too_long bytes then Some (length bytes) else None

-- how long a record is without the channel, where it has this number and is too long so
abbrev pub long_without : List ℕ → ConnNo → Option SessionRecord → Option ℕ
long_without name conn None = None
long_without name conn (Some r) = if nat_eq r.conn.0 conn.0 then length_if_long (bytes_without name r) else None

-- the same of the record of a member
abbrev pub long_record_of : List ℕ → Session → DurableWorld → Option ℕ
long_record_of name m world = long_without name m.conn (session_at (bound_to (session_name m.name) world) world)

-- the members of the channel that was found
abbrev pub members_of : Option ChannelRecord → List Session
members_of None = []
members_of (Some c) = c.members

-- the members of a channel in a world
abbrev pub members_in : List ℕ → DurableWorld → List Session
members_in name world = members_of (value_under channel_of (channel_name name) world)

-- the kind of a channel's record, or where that is one, that of the first member's that is not a session's
abbrev pub kind_of_all : List ℕ → DurableWorld → Option ℕ
kind_of_all name world = other_kind (kind_under (channel_name name) world) (first_of wrong_kind_of (members_in name world) world)

-- the length of the first member's record that is too long without the channel
abbrev pub length_of_all : List ℕ → DurableWorld → Option ℕ
length_of_all name world = first_of (long_record_of name) (members_in name world) world

-- a refusal of this sort tells what is so found in the world as it was before, in every agreeing one
abbrev pub TellsFound : (ℕ → Refusal) → ReadsAndWrites → ReadsAndWrites → (DurableWorld → Option ℕ) → Refusal → Type 0
TellsFound sort before after found e = (n : ℕ) → e ≡ sort n → (d : DurableWorld) → Agrees d after.reads → found (current before d).world ≡ Some n

-- no object is longer than an object may be
abbrev pub AreShort : DurableWorld → Type 0
AreShort world = (id : ObjectId) (object : Object) → get world.objects id ≡ Some object → is_too_long object.bytes ≡ false

-- no refusal is over a length, in a world where no object was too long before
abbrev pub NeverTooLong : ReadsAndWrites → ReadsAndWrites → Refusal → Type 0
NeverTooLong before after e = (n : ℕ) → e ≡ refusal.TooLong n → (d : DurableWorld) → Agrees d after.reads → AreShort (current before d).world → ⊥

-- what is found of the members is found of those from this place on
abbrev pub FoundLater : (Session → DurableWorld → Option ℕ) → ReadsAndWrites → ReadsAndWrites → List Session → ℕ → Type 0
FoundLater find before after members i = (d : DurableWorld) → Agrees d after.reads → first_of find members (current before d).world ≡ first_of find (drop i members) (current after d).world

-- an item of the record of one of these members
abbrev pub IsOfEach : ReadsAndWrites → ReadsAndWrites → List Session → Item → Type 0
IsOfEach before after [] q = ⊥
IsOfEach before after (m ∷ members) q = IsOfRecord before after (session_name m.name) q ⊎ IsOfEach before after members q

-- the object of a channel's record, or an item of the record of one of its members
abbrev pub IsOfChannel : ReadsAndWrites → ReadsAndWrites → ObjectId → List Session → Item → Type 0
IsOfChannel before after id members q = (q ≡ ask.Object id) ⊎ IsOfEach before after members q

-- an item of a channel's record, or of the record of one of the members that the channel has, in every agreeing world as it was before
abbrev pub IsOfAll : ReadsAndWrites → ReadsAndWrites → List ℕ → Item → Type 0
IsOfAll before after name q =
    IsOfRecord before after (channel_name name) q ⊎ ((members : List Session) × ((d : DurableWorld) → Agrees d after.reads → members_in name (current before d).world ≡ members) × IsOfEach before after members q)

-- a record that was found under a session's name, and its bytes, which are to be saved: it stands, and the bytes are not too long
abbrev pub IsFoundOf : ReadsAndWrites → ReadsAndWrites → Session → ObjectId × List ℕ → Type 0
IsFoundOf before after m p = Stands after p.0 × IsOfRecord before after (session_name m.name) (ask.Object p.0) × (is_too_long p.1 ≡ false)

-- the same under the name of one of these members
abbrev pub IsFoundAmong : ReadsAndWrites → ReadsAndWrites → List Session → ObjectId × List ℕ → Type 0
IsFoundAmong before after members p = Stands after p.0 × IsOfEach before after members (ask.Object p.0) × (is_too_long p.1 ≡ false)
