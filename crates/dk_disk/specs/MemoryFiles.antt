-- A file in memory, and the two of a home.
use Rattle.std.specs.Prelude.{◌≡◌, ℕ, ◌+◌, ◌≤◌, List, length}
use Rattle.dk_types.specs.declared.side.Side.{Side}
use Rattle.dk_types.specs.declared.side.Side.TheVariants.{Zero, One}

-- what a read gives, and room for so many more bytes
pub record File : Type 0 where
  pub reads : List ℕ
  pub room : ℕ

-- the bytes stay, and there is no less room
pub record IsReserved (old new : File) : Type 0 where
  pub reads : new.reads ≡ old.reads
  pub room : old.room ≤ new.room

-- a change of these bytes that took no more room than n bytes
pub record IsChanged (old new : File) (reads : List ℕ) (n : ℕ) : Type 0 where
  pub changed : new.reads ≡ reads
  pub room : old.room ≤ new.room + n

-- the two files of a home
pub record Files : Type 0 where
  pub zero : File
  pub one : File

-- the file of a side
abbrev pub file_of : Files → Side → File
file_of files Zero = files.zero
file_of files One = files.one

-- how many bytes both hold
abbrev pub size_of : Files → ℕ
size_of files = length files.zero.reads + length files.one.reads

-- both files have their bytes, and no less room
abbrev pub AreReserved : Files → Files → Type 0
AreReserved old new = (side : Side) → IsReserved (file_of old side) (file_of new side)

-- a change of a file takes at most so much room
abbrev pub Takes : File → File → ℕ → Type 0
Takes old new n = old.room ≤ new.room + n
