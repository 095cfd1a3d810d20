-- The records of sessions and channels: what is read fits, and what fits is written in bytes.
use Rattle.std.proofs.Common.{◌≡◌, ℕ, ◌<◌, Bool, true, false, All, nat_lt, ◌==◌, Some, List, [], ◌∷◌, ◌++◌, Ok, refl, subst, arith}
use Rattle.std.proofs.lemmas.List.Elements.{All-weaker}
use Rattle.dk_types.specs.declared.job.Session.{Session}
use Rattle.dk_types.specs.Names.{IsName}
use Rattle.dk_types.specs.Rest.{Rest, IsBytes}
use Rattle.dk_types.specs.Fields.{IsU8, IsU64, u8_spelling, u64_spelling, name_spelling}
use Rattle.dk_types.specs.Reading.{◌>>=◌}
use Rattle.dk_types.specs.Payload.{next_u8, next_u64, next_name, checked}
use Rattle.dk_types.proofs.Steps.{bind_ok, ok_is}
use Rattle.dk_types.proofs.NextLaws.{next_u8_exact, next_u64_exact, next_name_exact}
use Rattle.dk_types.specs.Lists.{list_spelling, list_at}
use Rattle.dk_model.specs.declared.records.SessionRecord.{SessionRecord}
use Rattle.dk_model.specs.declared.records.ChannelRecord.{ChannelRecord}
use Rattle.dk_model.specs.declared.records.Delivery.{Delivery}
use Rattle.dk_model.specs.declared.records.Delivery.TheVariants.{Reliable, UnorderedReliable, OrderedUnreliable, Unreliable}
use Rattle.dk_model.specs.Records.{session_bytes, next_session, session_of, flag, delivery_number, delivery_of, member_bytes, channel_bytes, next_member, next_channel, channel_of, is_name_too_long, session_name, channel_name}
use Rattle.dk_model.proofs.Acts.{AreBytes}
use Rattle.dk_model.proofs.Bytes.{bytes_append, bytes_cons, bytes_nil, bytes_of_u64, bytes_of_name, bytes_of_list, name_after}
use Rattle.dk_model.proofs.Readings.{Yields, yields_exact, yields_checked, yields_list, value_fits}

-- each of the channels is a name
abbrev pub HasChannels : SessionRecord → Type 0
HasChannels r = All IsName r.channels

-- a session under a name
abbrev pub IsNamed : Session → Type 0
IsNamed m = IsName m.name

abbrev pub HasMembers : ChannelRecord → Type 0
HasMembers r = All IsNamed r.members

yields_u8 : Yields IsU8 next_u8
yields_u8 = yields_exact IsU8 u8_spelling next_u8 next_u8_exact

yields_u64 : Yields IsU64 next_u64
yields_u64 = yields_exact IsU64 u64_spelling next_u64 next_u64_exact

yields_name : Yields IsName next_name
yields_name = yields_exact IsName name_spelling next_name next_name_exact

yields_session : Yields HasChannels next_session
unfolding next_session
yields_session old x new each e =
    let a = bind_ok (next_u64 old) (λ conn. list_at (λ _. next_name) conn.1 >>= λ channels. Ok (record { conn = record { 0 = conn.0 }; channels = channels.0 }, channels.1)) (x, new) e in
    let b = bind_ok (list_at (λ _. next_name) a.0.1) (λ channels. Ok (record { conn = record { 0 = a.0.0 }; channels = channels.0 }, channels.1)) (x, new) a.2 in
    let first = yields_u64 old a.0.0 a.0.1 each a.1 in
    let second = yields_list IsName next_name yields_name a.0.1 b.0.0 b.0.1 first.1 b.1 in
    subst (λ (p : SessionRecord × Rest). HasChannels p.0 × IsBytes p.1.bytes) (ok_is {F = ℕ} (record { conn = record { 0 = a.0.0 }; channels = b.0.0 }, b.0.1) (x, new) b.2) second

-- a record that is read from bytes has channels' names
pub session_fits : (bytes : List ℕ) (r : SessionRecord) → AreBytes bytes → session_of bytes ≡ Some r → HasChannels r
unfolding session_of
session_fits bytes r each e = value_fits HasChannels next_session yields_session bytes r each e

yields_member : Yields IsNamed next_member
unfolding next_member
yields_member old x new each e =
    let a = bind_ok (next_name old) (λ name. next_u64 name.1 >>= λ conn. Ok (record { name = name.0; conn = record { 0 = conn.0 } }, conn.1)) (x, new) e in
    let b = bind_ok (next_u64 a.0.1) (λ conn. Ok (record { name = a.0.0; conn = record { 0 = conn.0 } }, conn.1)) (x, new) a.2 in
    let first = yields_name old a.0.0 a.0.1 each a.1 in
    let second = yields_u64 a.0.1 b.0.0 b.0.1 first.1 b.1 in
    subst (λ (p : Session × Rest). IsNamed p.0 × IsBytes p.1.bytes) (ok_is {F = ℕ} (record { name = a.0.0; conn = record { 0 = b.0.0 } }, b.0.1) (x, new) b.2) (first.0, second.1)

yields_channel : Yields HasMembers next_channel
unfolding next_channel
yields_channel old x new each e =
    let a = bind_ok (checked (λ b. nat_lt b 2) next_u8 old) (λ listener. checked (λ b. nat_lt b 4) next_u8 listener.1 >>= λ delivery. list_at (λ _. next_member) delivery.1 >>= λ members. Ok (record { listener = listener.0 == 1; delivery = delivery_of delivery.0; members = members.0 }, members.1)) (x, new) e in
    let b = bind_ok (checked (λ b. nat_lt b 4) next_u8 a.0.1) (λ delivery. list_at (λ _. next_member) delivery.1 >>= λ members. Ok (record { listener = a.0.0 == 1; delivery = delivery_of delivery.0; members = members.0 }, members.1)) (x, new) a.2 in
    let c = bind_ok (list_at (λ _. next_member) b.0.1) (λ members. Ok (record { listener = a.0.0 == 1; delivery = delivery_of b.0.0; members = members.0 }, members.1)) (x, new) b.2 in
    let first = yields_checked IsU8 (λ b. nat_lt b 2) next_u8 yields_u8 old a.0.0 a.0.1 each a.1 in
    let second = yields_checked IsU8 (λ b. nat_lt b 4) next_u8 yields_u8 a.0.1 b.0.0 b.0.1 first.1 b.1 in
    let third = yields_list IsNamed next_member yields_member b.0.1 c.0.0 c.0.1 second.1 c.1 in
    subst (λ (p : ChannelRecord × Rest). HasMembers p.0 × IsBytes p.1.bytes) (ok_is {F = ℕ} (record { listener = a.0.0 == 1; delivery = delivery_of b.0.0; members = c.0.0 }, c.0.1) (x, new) c.2) third

-- a record that is read from bytes has members under names
pub channel_fits : (bytes : List ℕ) (r : ChannelRecord) → AreBytes bytes → channel_of bytes ≡ Some r → HasMembers r
unfolding channel_of
channel_fits bytes r each e = value_fits HasMembers next_channel yields_channel bytes r each e

-- a session's record is written in bytes
pub bytes_of_session : (r : SessionRecord) → HasChannels r → AreBytes (session_bytes r)
bytes_of_session r h = bytes_append (u64_spelling r.conn.0) (list_spelling name_spelling r.channels) (bytes_of_u64 r.conn.0) (bytes_of_list name_spelling r.channels (All-weaker IsName (λ n. AreBytes (name_spelling n)) (λ n is. bytes_of_name n is) r.channels h))

bytes_of_member : (m : Session) → IsNamed m → AreBytes (member_bytes m)
bytes_of_member m is = bytes_append (name_spelling m.name) (u64_spelling m.conn.0) (bytes_of_name m.name is) (bytes_of_u64 m.conn.0)

flag_below : (b : Bool) → flag b < 256
flag_below true = omega arith
flag_below false = omega arith

bytes_of_u8 : (n : ℕ) → n < 256 → AreBytes (u8_spelling n)
unfolding u8_spelling
bytes_of_u8 n h = bytes_cons n [] h bytes_nil

delivery_below : (d : Delivery) → delivery_number d < 256
delivery_below Reliable = omega arith
delivery_below UnorderedReliable = omega arith
delivery_below OrderedUnreliable = omega arith
delivery_below Unreliable = omega arith

-- a channel's record is written in bytes
pub bytes_of_channel : (r : ChannelRecord) → HasMembers r → AreBytes (channel_bytes r)
bytes_of_channel r h =
    bytes_append (u8_spelling (flag r.listener)) (u8_spelling (delivery_number r.delivery) ++ list_spelling member_bytes r.members) (bytes_of_u8 (flag r.listener) (flag_below r.listener))
    (bytes_append (u8_spelling (delivery_number r.delivery)) (list_spelling member_bytes r.members) (bytes_of_u8 (delivery_number r.delivery) (delivery_below r.delivery)) (bytes_of_list member_bytes r.members (All-weaker IsNamed (λ m. AreBytes (member_bytes m)) bytes_of_member r.members h)))

-- `$s.` and a login name is a name, where it is not too long
pub session_named : (name : List ℕ) → IsName name → is_name_too_long (session_name name) ≡ false → IsName (session_name name)
session_named name is most = name_after (36 ∷ 115 ∷ 46 ∷ []) name refl is most

-- `$c.` and a channel's name is a name, where it is not too long
pub channel_named : (name : List ℕ) → IsName name → is_name_too_long (channel_name name) ≡ false → IsName (channel_name name)
channel_named name is most = name_after (36 ∷ 99 ∷ 46 ∷ []) name refl is most
