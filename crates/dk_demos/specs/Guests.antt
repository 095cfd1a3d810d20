-- What the greeter keeps of a guest: how often it came, as the bytes of a managed object.
use Rattle.std.specs.Prelude.{ℕ, ◌+◌, ◌-◌, ◌^◌, Option, List, min, Result, Ok}
use Rattle.dk_types.specs.Rest.{Rest}
use Rattle.dk_types.specs.Fields.{IsU64, u64_spelling}
use Rattle.dk_types.specs.Reading.{◌>>=◌}
use Rattle.dk_types.specs.Payload.{next_u64}
use Rattle.dk_model.specs.Records.{value_of}
use Rattle.dk_demos.specs.declared.guest.Guest.{Guest}

-- the kind of a guest
abbrev pub GUEST : ℕ
GUEST = 1

-- a number of 64 bits
pub record IsGuest (g : Guest) : Type 0 where
  pub visits : IsU64 g.visits

-- the bytes of a guest
abbrev pub guest_bytes : Guest → List ℕ
guest_bytes g = u64_spelling g.visits

-- reading a guest
unfoldable pub next_guest : Rest → Result (Guest × Rest) ℕ
next_guest r = do
  visits ← next_u64 r
  Ok (record { visits = visits.0 }, visits.1)

-- the guest that these bytes are, where they are one
unfoldable pub guest_of : List ℕ → Option Guest
guest_of = value_of next_guest

-- one more visit; the greatest number stays
abbrev pub once_more : Guest → Guest
once_more g = record { visits = min (g.visits + 1) (2 ^ 64 - 1) }
