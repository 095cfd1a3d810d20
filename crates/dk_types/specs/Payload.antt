-- Reading a payload of fields. A fault is told by its place alone: that of the first byte of the field that is cut off, or is outside its form or limit.
use Rattle.std.specs.Prelude.{ℕ, Bool, List, Result, Ok, Err, if◌then◌else◌}
use Rattle.dk_types.specs.declared.number.ObjectId.{ObjectId}
use Rattle.dk_types.specs.declared.number.TaskKey.{TaskKey}
use Rattle.dk_types.specs.declared.refused.WireRefused.{WireRefused}
use Rattle.dk_types.specs.Rest.{Rest}
use Rattle.dk_types.specs.Fields.{key_of_id}
use Rattle.dk_types.specs.Reading.{◌>>=◌, u8_at, u16_at, u32_at, u64_at, name_at, blob_at, id_at, end_at}

-- what was read at this place, with any fault told by the place
abbrev pub placed : {X : Type 0} → ℕ → Result X WireRefused → Result X ℕ
placed at (Ok x) = Ok x
placed at (Err e) = Err at

-- reading a byte, or the place of the fault
unfoldable pub next_u8 : Rest → Result (ℕ × Rest) ℕ
next_u8 r = placed r.at (u8_at r)

-- reading a number of 16 bits, or the place of the fault
unfoldable pub next_u16 : Rest → Result (ℕ × Rest) ℕ
next_u16 r = placed r.at (u16_at r)

-- reading a number of 32 bits, or the place of the fault
unfoldable pub next_u32 : Rest → Result (ℕ × Rest) ℕ
next_u32 r = placed r.at (u32_at r)

-- reading a number of 64 bits, or the place of the fault
unfoldable pub next_u64 : Rest → Result (ℕ × Rest) ℕ
next_u64 r = placed r.at (u64_at r)

-- reading a name, or the place of the fault
unfoldable pub next_name : Rest → Result (List ℕ × Rest) ℕ
next_name r = placed r.at (name_at r)

-- reading bytes behind their length, which is within this limit, or the place of the fault
unfoldable pub next_blob : ℕ → Rest → Result (List ℕ × Rest) ℕ
next_blob most r = placed r.at (blob_at most r)

-- reading an object's id, or the place of the fault
unfoldable pub next_id : Rest → Result (ObjectId × Rest) ℕ
next_id r = placed r.at (id_at r)

-- a key has the form of an id
unfoldable pub next_key : Rest → Result (TaskKey × Rest) ℕ
next_key r = do
  id ← next_id r
  Ok (key_of_id id.0, id.1)

-- nothing is left
unfoldable pub next_end : Rest → Result Unit ℕ
next_end r = placed r.at (end_at r)

-- a value that passes a test; else the fault is at the value's own place
abbrev pub checked : {A : Type 0} → (A → Bool) → (Rest → Result (A × Rest) ℕ) → Rest → Result (A × Rest) ℕ
checked test reading r = do
  x ← reading r
  if test x.0 then Ok x else Err r.at

-- a whole payload: the value, and nothing behind it
abbrev pub whole : {A : Type 0} → (Rest → Result (A × Rest) ℕ) → List ℕ → Result A ℕ
whole reading bytes = do
  x ← reading (record { at = 0; bytes = bytes })
  end ← next_end x.1
  Ok x.0
