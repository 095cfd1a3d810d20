-- The platform's own objects: the record of a session and the record of a channel, and the names that lead to them.
use Rattle.std.specs.Prelude.{ℕ, Bool, true, false, Option, List, ◌∷◌, ◌++◌, ◌==◌, length, nat_lt, if◌then◌else◌}
use Rattle.dk_types.specs.declared.job.Session.{Session}
use Rattle.dk_model.specs.declared.records.SessionRecord.{SessionRecord}
use Rattle.dk_model.specs.declared.records.ChannelRecord.{ChannelRecord}
use Rattle.dk_model.specs.declared.records.Delivery.{Delivery}
use Rattle.dk_model.specs.declared.records.Delivery.TheVariants.{Reliable, UnorderedReliable, OrderedUnreliable, Unreliable}
use Rattle.std.specs.Prelude.{Result, Ok}
use Rattle.std.specs.Result.{result_ok}
use Rattle.dk_types.specs.Rest.{Rest}
use Rattle.dk_types.specs.Fields.{u8_spelling, u64_spelling, name_spelling}
use Rattle.dk_types.specs.Reading.{◌>>=◌}
use Rattle.dk_types.specs.Payload.{next_u8, next_u64, next_name, checked, whole}
use Rattle.dk_types.specs.Lists.{list_spelling, list_at}

-- the value, where its spelling is all of the bytes
abbrev pub value_of : {A : Type 0} → (Rest → Result (A × Rest) ℕ) → List ℕ → Option A
value_of next bytes = result_ok (whole next bytes)

-- the kind of a session's record
abbrev pub SESSION_KIND : ℕ
SESSION_KIND = 65281

-- the bytes of a session's record: its connection and the names of its channels
abbrev pub session_bytes : SessionRecord → List ℕ
session_bytes r = u64_spelling r.conn.0 ++ list_spelling name_spelling r.channels

-- reading a session's record
unfoldable pub next_session : Rest → Result (SessionRecord × Rest) ℕ
next_session r = do
  conn ← next_u64 r
  channels ← list_at (λ _. next_name) conn.1
  Ok (record { conn = record { 0 = conn.0 }; channels = channels.0 }, channels.1)

-- the record that these bytes are, where they are one
unfoldable pub session_of : List ℕ → Option SessionRecord
session_of = value_of next_session

-- `$s.` and the login name
abbrev pub session_name : List ℕ → List ℕ
session_name name = 36 ∷ 115 ∷ 46 ∷ name

-- a platform name is no name past 255 bytes
abbrev pub is_name_too_long : List ℕ → Bool
is_name_too_long name = nat_lt 255 (length name)

-- the kind of a channel's record
abbrev pub CHANNEL_KIND : ℕ
CHANNEL_KIND = 65282

-- a delivery by its number, from 0 on
abbrev pub delivery_number : Delivery → ℕ
delivery_number Reliable = 0
delivery_number UnorderedReliable = 1
delivery_number OrderedUnreliable = 2
delivery_number Unreliable = 3

-- the delivery of a number from 0 to 3
abbrev pub delivery_of : ℕ → Delivery
delivery_of n = if n == 0 then Reliable else if n == 1 then UnorderedReliable else if n == 2 then OrderedUnreliable else Unreliable

-- whether a game listens, as 0 or 1
abbrev pub flag : Bool → ℕ
flag false = 0
flag true = 1

-- the bytes of a member: name and connection
abbrev pub member_bytes : Session → List ℕ
member_bytes m = name_spelling m.name ++ u64_spelling m.conn.0

-- the bytes of a channel's record: whether the game listens, the delivery, and the members
abbrev pub channel_bytes : ChannelRecord → List ℕ
channel_bytes r = u8_spelling (flag r.listener) ++ (u8_spelling (delivery_number r.delivery) ++ list_spelling member_bytes r.members)

-- reading a member
unfoldable pub next_member : Rest → Result (Session × Rest) ℕ
next_member r = do
  name ← next_name r
  conn ← next_u64 name.1
  Ok (record { name = name.0; conn = record { 0 = conn.0 } }, conn.1)

-- reading a channel's record
unfoldable pub next_channel : Rest → Result (ChannelRecord × Rest) ℕ
next_channel r = do
  listener ← checked (λ b. nat_lt b 2) next_u8 r
  delivery ← checked (λ b. nat_lt b 4) next_u8 listener.1
  members ← list_at (λ _. next_member) delivery.1
  Ok (record { listener = listener.0 == 1; delivery = delivery_of delivery.0; members = members.0 }, members.1)

-- the record that these bytes are, where they are one
unfoldable pub channel_of : List ℕ → Option ChannelRecord
channel_of = value_of next_channel

-- `$c.` and the channel's name
abbrev pub channel_name : List ℕ → List ℕ
channel_name name = 36 ∷ 99 ∷ 46 ∷ name
