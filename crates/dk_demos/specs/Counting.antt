-- A counter: how often it was raised, as the bytes of a managed object.
use Rattle.std.specs.Prelude.{ℕ, ◌+◌, ◌-◌, ◌^◌, Option, List, min, Result, Ok}
use Rattle.dk_types.specs.Rest.{Rest}
use Rattle.dk_types.specs.Fields.{IsU64, u64_spelling}
use Rattle.dk_types.specs.Reading.{◌>>=◌}
use Rattle.dk_types.specs.Payload.{next_u64}
use Rattle.dk_model.specs.Records.{value_of}
use Rattle.dk_demos.specs.declared.counter.Counter.{Counter}

-- the kind of a counter
abbrev pub COUNTER : ℕ
COUNTER = 1

-- a number of 64 bits
pub record IsCounter (c : Counter) : Type 0 where
  pub count : IsU64 c.count

-- the bytes of a counter
abbrev pub counter_bytes : Counter → List ℕ
counter_bytes c = u64_spelling c.count

-- reading a counter
unfoldable pub next_counter : Rest → Result (Counter × Rest) ℕ
next_counter r = do
  count ← next_u64 r
  Ok (record { count = count.0 }, count.1)

-- the counter that these bytes are, where they are one
unfoldable pub counter_of : List ℕ → Option Counter
counter_of = value_of next_counter

-- raised by one; the greatest number stays
abbrev pub raised : Counter → Counter
raised c = record { count = min (c.count + 1) (2 ^ 64 - 1) }
