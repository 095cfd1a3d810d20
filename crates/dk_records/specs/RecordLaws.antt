-- What a record has to be to be spelled, and that records are read exactly.
use Rattle.std.proofs.Common.{◌≡◌, ℕ, zero, suc, ◌==◌, Bool, true, false, Option, nat_lt, refl, ap, ◌∙◌, arith}
use Rattle.std.proofs.lemmas.Bool.{ltb-true}
use Rattle.dk_types.specs.declared.job.Session.{Session}
use Rattle.dk_types.specs.Names.{IsName}
use Rattle.dk_types.specs.Fields.{IsU8, IsU64}
use Rattle.dk_types.specs.Exact.{IsExact}
use Rattle.dk_types.specs.Lists.{IsList}
use Rattle.dk_types.proofs.Composing.{then_exact, last_exact, checked_exact}
use Rattle.dk_types.proofs.NextLaws.{next_u8_exact, next_u64_exact, next_name_exact}
use Rattle.dk_types.proofs.ListLaws.{list_exact}
use Rattle.dk_model.specs.declared.records.SessionRecord.{SessionRecord}
use Rattle.dk_model.specs.declared.records.ChannelRecord.{ChannelRecord}
use Rattle.dk_model.specs.declared.records.Delivery.{Delivery}
use Rattle.dk_model.specs.declared.records.Delivery.TheVariants.{Reliable, UnorderedReliable, OrderedUnreliable, Unreliable}
use Rattle.dk_model.specs.Records.{session_bytes, next_session, member_bytes, next_member, channel_bytes, next_channel, flag, delivery_number, delivery_of}
use Rattle.dk_records.specs.FieldLaws.{each_name_exact}

-- any number of 64 bits, and fewer than 2^32 channels
pub record IsSessionRecord (r : SessionRecord) : Type 0 where
  pub conn : IsU64 r.conn.0
  pub channels : IsList (λ _. IsName) r.channels

-- a member within its limits
pub record IsMember (m : Session) : Type 0 where
  pub name : IsName m.name
  pub conn : IsU64 m.conn.0

-- fewer than 2^32 members
pub record IsChannelRecord (r : ChannelRecord) : Type 0 where
  pub members : IsList (λ _. IsMember) r.members

-- reading a session's record takes back what its bytes say, and nothing else
pub each_session_exact : (before : Option SessionRecord) → IsExact IsSessionRecord session_bytes next_session
unfolding next_session
each_session_exact before =
    then_exact (λ (r : SessionRecord). r.conn.0) _ next_u64_exact (λ r is. is.conn) (λ conn fits.
    last_exact (λ (r : SessionRecord). r.channels) (λ channels. record { conn = record { 0 = conn }; channels = channels }) (list_exact each_name_exact) (λ r is. is.0.channels)
    (λ channels are. (record { conn = fits; channels = are }, refl)) (λ channels. refl) (λ r is i. record { conn = record { 0 = is.1 i }; channels = r.channels }))

-- the same of a member
pub each_member_exact : (before : Option Session) → IsExact IsMember member_bytes next_member
unfolding next_member
each_member_exact before =
    then_exact (λ (m : Session). m.name) _ next_name_exact (λ m is. is.name) (λ name fits.
    last_exact (λ (m : Session). m.conn.0) (λ conn. record { name = name; conn = record { 0 = conn } }) next_u64_exact (λ m is. is.0.conn)
    (λ conn small. (record { name = fits; conn = small }, refl)) (λ conn. refl) (λ m is i. record { name = is.1 i; conn = m.conn }))

flag_small : (b : Bool) → IsU8 (flag b) × (nat_lt (flag b) 2 ≡ true)
flag_small true = (omega arith, refl)
flag_small false = (omega arith, refl)

flag_told : (b : Bool) → b ≡ (flag b == 1)
flag_told true = refl
flag_told false = refl

number_small : (d : Delivery) → IsU8 (delivery_number d) × (nat_lt (delivery_number d) 4 ≡ true)
number_small Reliable = (omega arith, refl)
number_small UnorderedReliable = (omega arith, refl)
number_small OrderedUnreliable = (omega arith, refl)
number_small Unreliable = (omega arith, refl)

number_told : (d : Delivery) → d ≡ delivery_of (delivery_number d)
number_told Reliable = refl
number_told UnorderedReliable = refl
number_told OrderedUnreliable = refl
number_told Unreliable = refl

-- a number below two is the flag of what it tells
flag_back : (n : ℕ) → nat_lt n 2 ≡ true → flag (n == 1) ≡ n
flag_back zero h = refl
flag_back (suc zero) h = refl
flag_back (suc (suc n)) h = absurd (omega (arith, ltb-true (suc (suc n)) 2 h))

number_back : (n : ℕ) → nat_lt n 4 ≡ true → delivery_number (delivery_of n) ≡ n
number_back zero h = refl
number_back (suc zero) h = refl
number_back (suc (suc zero)) h = refl
number_back (suc (suc (suc zero))) h = refl
number_back (suc (suc (suc (suc n)))) h = absurd (omega (arith, ltb-true (suc (suc (suc (suc n)))) 4 h))

-- the same of a channel's record
pub each_channel_exact : (before : Option ChannelRecord) → IsExact IsChannelRecord channel_bytes next_channel
unfolding next_channel
each_channel_exact before =
    then_exact (λ (r : ChannelRecord). flag r.listener) _ (checked_exact (λ b. nat_lt b 2) next_u8_exact) (λ r is. flag_small r.listener) (λ listener fits.
    then_exact (λ (r : ChannelRecord). delivery_number r.delivery) _ (checked_exact (λ b. nat_lt b 4) next_u8_exact) (λ r is. number_small r.delivery) (λ delivery small.
    last_exact (λ (r : ChannelRecord). r.members) (λ members. record { listener = listener == 1; delivery = delivery_of delivery; members = members }) (list_exact each_member_exact) (λ r is. is.0.0.members)
    (λ members are. ((record { members = are }, flag_back listener fits.1), number_back delivery small.1)) (λ members. refl)
    (λ r is i. record { listener = (flag_told r.listener ∙ ap (λ n. n == 1) is.0.1) i; delivery = (number_told r.delivery ∙ ap delivery_of is.1) i; members = r.members })))
