-- Reading from left to right: a value and the rest behind it, or the first fault that is met.
use Rattle.std.specs.Prelude.{◌≡◌, ℕ, ◌+◌, ◌==◌, List, length, take, drop, slice_index, Result, Ok, Err, nat_lt, if◌then◌else◌}
use Rattle.std.specs.Int.{Width, w16, w32, w64, byte_len, from_be_bytes}
use Rattle.std.specs.Str.Lossy.{utf8_valid_len}
use Rattle.dk_types.specs.declared.number.ObjectId.{ObjectId}
use Rattle.dk_types.specs.declared.limits.TheConstants.{NUMBERS_END}
use Rattle.dk_types.specs.declared.refused.WireRefused.{WireRefused}
use Rattle.dk_types.specs.declared.refused.WireRefused.TheVariants.{Short, Extra, BadTag, TooLong, NoMemory}
use Rattle.dk_types.specs.Rest.{Rest, moved}

-- a step, and what follows from its value: the first fault ends it
infixl 10 ◌>>=◌
-- one reading and then another, unless the first was refused
abbrev pub ◌>>=◌ : {A B F : Type 0} → Result A F → (A → Result B F) → Result B F
(Ok x) >>= f = f x
(Err e) >>= f = Err e

-- the next bytes, this many of them
abbrev pub bytes_at : ℕ → Rest → Result (List ℕ × Rest) WireRefused
bytes_at n r = if nat_lt (length r.bytes) n then Err (Short n (length r.bytes)) else Ok (take n r.bytes, moved n r)

-- a number of this width
abbrev pub number_at : Width → Rest → Result (ℕ × Rest) WireRefused
number_at w r = do
  front ← bytes_at (byte_len w) r
  Ok (from_be_bytes w front.0, front.1)

-- reading a byte
unfoldable pub u8_at : Rest → Result (ℕ × Rest) WireRefused
u8_at r = do
  front ← bytes_at 1 r
  Ok (slice_index front.0 0, front.1)

-- reading a number of 16 bits
unfoldable pub u16_at : Rest → Result (ℕ × Rest) WireRefused
u16_at r = number_at w16 r

-- reading a number of 32 bits
unfoldable pub u32_at : Rest → Result (ℕ × Rest) WireRefused
u32_at r = number_at w32 r

-- reading a number of 64 bits
unfoldable pub u64_at : Rest → Result (ℕ × Rest) WireRefused
u64_at r = number_at w64 r

-- the bytes of a name that stands at this place, if they are text; else the place of the first that is not, and that byte
abbrev pub text_of : List ℕ → ℕ → Rest → Result (List ℕ × Rest) WireRefused
text_of name at behind =
    if nat_lt (utf8_valid_len name) (length name)
    then Err (BadTag (at + utf8_valid_len name) (slice_index name (utf8_valid_len name)))
    else Ok (name, behind)

-- the length byte is not 0, that many bytes are there, and they are text
unfoldable pub name_at : Rest → Result (List ℕ × Rest) WireRefused
name_at r = do
  len ← u8_at r
  front ← if len.0 == 0 then Err (BadTag r.at 0) else bytes_at len.0 len.1
  text_of front.0 len.1.at front.1

-- the length is within the limit, and that many bytes are there
unfoldable pub blob_at : ℕ → Rest → Result (List ℕ × Rest) WireRefused
blob_at most r = do
  len ← u32_at r
  if nat_lt most len.0 then Err TooLong else bytes_at len.0 len.1

-- the run's number and the place in twelve bytes
abbrev pub id_of : List ℕ → ObjectId
id_of bytes = record { run = record { 0 = from_be_bytes w64 (take 8 bytes) }; k = from_be_bytes w32 (drop 8 bytes) }

-- twelve bytes are there, and the run's number is below 2 ^ 62
unfoldable pub id_at : Rest → Result (ObjectId × Rest) WireRefused
id_at r = do
  front ← bytes_at 12 r
  if nat_lt (id_of front.0).run.0 NUMBERS_END then Ok (id_of front.0, front.1) else Err (BadTag r.at (slice_index front.0 0))

-- nothing is left
unfoldable pub end_at : Rest → Result Unit WireRefused
end_at r = if length r.bytes == 0 then Ok tt else Err (Extra r.at)

-- a refusal is that of reading, unless memory ran out
abbrev pub Refuses : {Y : Type 0} → WireRefused → Result Y WireRefused → Type 0
Refuses NoMemory read = Unit {0}
Refuses (Short need have) read = read ≡ Err (Short need have)
Refuses (Extra at) read = read ≡ Err (Extra at)
Refuses (BadTag at tag) read = read ≡ Err (BadTag at tag)
Refuses TooLong read = read ≡ Err TooLong

-- What a call answered, and where it left the reader, is what reading gives, unless memory ran out. A refusal leaves the reader where it stood.
abbrev pub Reads : {A : Type 0} → (Rest → Result (A × Rest) WireRefused) → Rest → Result A WireRefused → Rest → Type 0
Reads reading old (Ok x) new = reading old ≡ Ok (x, new)
Reads reading old (Err e) new = (new ≡ old) × Refuses e (reading old)
