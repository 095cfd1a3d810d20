-- The records of sessions and channels are read exactly: what is read fits and was spelled so, and what fits is read again.
use Rattle.std.proofs.Common.{◌≡◌, ℕ, ◌<◌, ◌≤◌, Bool, true, false, cond, not, All, Option, Some, None, List, [], ◌∷◌, length, filter, Result, Ok, Err, refl, ap, ◌∙◌, arith}
use Rattle.std.specs.Result.{result_ok}
use Rattle.dk_types.specs.declared.job.Session.{Session}
use Rattle.dk_types.specs.Names.{IsName}
use Rattle.dk_types.specs.Lists.{AreChained, IsList}
use Rattle.dk_types.specs.Payload.{whole}
use Rattle.dk_wire.proofs.WholeLaws.{whole_takes, whole_again}
use Rattle.dk_model.specs.declared.records.SessionRecord.{SessionRecord}
use Rattle.dk_model.specs.declared.records.ChannelRecord.{ChannelRecord}
use Rattle.dk_model.specs.Records.{session_bytes, next_session, session_of, channel_bytes, next_channel, channel_of}
use Rattle.dk_model.specs.Platforms.{without_member, without_channel, same_session, same_name}
use Rattle.dk_model.proofs.Readings.{bytes_before}
use Rattle.dk_records.specs.RecordLaws.{IsSessionRecord, IsMember, IsChannelRecord, each_session_exact, each_channel_exact}

ok_of : {A : Type 0} (r : Result A ℕ) (x : A) → result_ok r ≡ Some x → r ≡ Ok x
ok_of (Ok y) x e = cc
ok_of (Err n) x e = cc

-- a session's record that was read
pub session_was : (bytes : List ℕ) (r : SessionRecord) → All (λ b. b < 256) bytes → session_of bytes ≡ Some r → IsSessionRecord r
unfolding session_of
session_was bytes r each e = (whole_takes IsSessionRecord session_bytes next_session (each_session_exact None) bytes r (bytes_before bytes each) (ok_of (whole next_session bytes) r e)).0

-- one that is written is read
pub session_again : (r : SessionRecord) → IsSessionRecord r → session_of (session_bytes r) ≡ Some r
unfolding session_of
session_again r fits = ap result_ok (whole_again IsSessionRecord session_bytes next_session (each_session_exact None) r fits)

-- a channel's record that was read
pub channel_was : (bytes : List ℕ) (c : ChannelRecord) → All (λ b. b < 256) bytes → channel_of bytes ≡ Some c → IsChannelRecord c × (bytes ≡ channel_bytes c)
unfolding channel_of
channel_was bytes c each e = whole_takes IsChannelRecord channel_bytes next_channel (each_channel_exact None) bytes c (bytes_before bytes each) (ok_of (whole next_channel bytes) c e)

-- one that is written is read
pub channel_again : (c : ChannelRecord) → IsChannelRecord c → channel_of (channel_bytes c) ≡ Some c
unfolding channel_of
channel_again c fits = ap result_ok (whole_again IsChannelRecord channel_bytes next_channel (each_channel_exact None) c fits)

module _ {A : Type 0} (p : A → Bool) where
  shorter : (xs : List A) → length (filter p xs) ≤ length xs
  shorter [] = omega arith
  shorter (x ∷ xs) = let rest = shorter xs in elim (p x) as (λ b. length (cond b (x ∷ filter p xs) (filter p xs)) ≤ length (x ∷ xs)) [
    | true ↦ omega arith
    | false ↦ omega arith
  ]

  module _ (Fits : A → Type 0) where
    chained : (before after : Option A) (xs : List A) → AreChained (λ _. Fits) before xs → AreChained (λ _. Fits) after (filter p xs)
    chained before after [] each = tt
    chained before after (x ∷ xs) each = elim (p x) as (λ b. AreChained (λ _. Fits) after (cond b (x ∷ filter p xs) (filter p xs))) [
      | true ↦ (each.0, chained (Some x) (Some x) xs each.1)
      | false ↦ chained (Some x) after xs each.1
    ]

    -- some of a list's items
    filtered : (xs : List A) → IsList (λ _. Fits) xs → IsList (λ _. Fits) (filter p xs)
    filtered xs is = let count = is.count in let less = shorter xs in record { count = omega arith; each = chained None None xs is.each }

  -- what a test leaves it leaves again
  pub filter_again : (xs : List A) → filter p (filter p xs) ≡ filter p xs
  filter_again [] = refl
  filter_again (x ∷ xs) = elim (p x) as (λ b. p x ≡ b → filter p (cond b (x ∷ filter p xs) (filter p xs)) ≡ cond b (x ∷ filter p xs) (filter p xs)) [
    | true ↦ λ e. ap (λ b. cond b (x ∷ filter p (filter p xs)) (filter p (filter p xs))) e ∙ ap (λ (ys : List A). x ∷ ys) (filter_again xs)
    | false ↦ λ e. filter_again xs
  ] refl

-- the session's record without the channel
abbrev pub without : List ℕ → SessionRecord → SessionRecord
without name r = record r { channels = without_channel name r.channels }

pub without_fits : (name : List ℕ) (r : SessionRecord) → IsSessionRecord r → IsSessionRecord (without name r)
without_fits name r is = record { conn = is.conn; channels = filtered (λ c. not (same_name name c)) IsName r.channels is.channels }

-- a channel that was taken away is not taken again
pub without_again : (name : List ℕ) (r : SessionRecord) → without name (without name r) ≡ without name r
without_again name r = ap (λ (cs : List (List ℕ)). record r { channels = cs }) (filter_again (λ c. not (same_name name c)) r.channels)

-- the channel's record without the session
abbrev pub lacking : Session → ChannelRecord → ChannelRecord
lacking m c = record c { members = without_member m c.members }

pub lacking_fits : (m : Session) (c : ChannelRecord) → IsChannelRecord c → IsChannelRecord (lacking m c)
lacking_fits m c is = record { members = filtered (λ o. not (same_session m o)) IsMember c.members is.members }
