-- Fields as bytes: for each kind of field what its values are, and the one spelling of each. Numbers are big-endian.
-- A record's spelling is that of its fields, grouped to the right: `a ++ (b ++ c)`.
use Rattle.std.specs.Prelude.{ℕ, ◌<◌, ◌≤◌, ◌^◌, List, [], ◌∷◌, ◌++◌, length}
use Rattle.std.specs.Int.{w16, w32, w64, to_be_bytes}
use Rattle.dk_types.specs.declared.number.ObjectId.{ObjectId}
use Rattle.dk_types.specs.declared.number.TaskKey.{TaskKey}
use Rattle.dk_types.specs.declared.limits.TheConstants.{NUMBERS_END}

-- the numbers of 8, 16, 32 and 64 bits
abbrev pub IsU8 : ℕ → Type 0
IsU8 n = n < 2 ^ 8

-- a number of 16 bits
abbrev pub IsU16 : ℕ → Type 0
IsU16 n = n < 2 ^ 16

-- a number of 32 bits
abbrev pub IsU32 : ℕ → Type 0
IsU32 n = n < 2 ^ 32

-- a number of 64 bits
abbrev pub IsU64 : ℕ → Type 0
IsU64 n = n < 2 ^ 64

-- a number is one, two, four or eight bytes, the highest first
unfoldable pub u8_spelling : ℕ → List ℕ
u8_spelling n = n ∷ []

-- two bytes, the higher first
unfoldable pub u16_spelling : ℕ → List ℕ
u16_spelling n = to_be_bytes w16 n

-- four bytes, the highest first
unfoldable pub u32_spelling : ℕ → List ℕ
u32_spelling n = to_be_bytes w32 n

-- eight bytes, the highest first
unfoldable pub u64_spelling : ℕ → List ℕ
u64_spelling n = to_be_bytes w64 n

-- a name is one byte that counts its bytes, and these
unfoldable pub name_spelling : List ℕ → List ℕ
name_spelling name = length name ∷ name

-- a blob under a limit
abbrev pub IsBlob : ℕ → List ℕ → Type 0
IsBlob most blob = length blob ≤ most

-- a blob is a number of 32 bits that counts its bytes, and these
unfoldable pub blob_spelling : List ℕ → List ℕ
blob_spelling blob = u32_spelling (length blob) ++ blob

-- the ids of objects that a run can make: its number is below 2 ^ 62
pub record IsId (id : ObjectId) : Type 0 where
  pub run : id.run.0 < NUMBERS_END
  pub k : IsU32 id.k

-- an id is its run's number in 64 bits, and its place in 32
unfoldable pub id_spelling : ObjectId → List ℕ
id_spelling id = u64_spelling id.run.0 ++ u32_spelling id.k

-- a key of a task has the form of an id
abbrev pub id_of_key : TaskKey → ObjectId
id_of_key key = record { run = key.run; k = key.k }

-- a task's key of the same fields as an object's id
abbrev pub key_of_id : ObjectId → TaskKey
key_of_id id = record { run = id.run; k = id.k }

-- the keys of tasks that a run can schedule
abbrev pub IsKey : TaskKey → Type 0
IsKey key = IsId (id_of_key key)

-- the bytes of a task's key, which are those of an id
unfoldable pub key_spelling : TaskKey → List ℕ
key_spelling key = id_spelling (id_of_key key)
