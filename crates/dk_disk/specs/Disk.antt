-- One file of a store: what a read gives, and what a stop may leave.
--
-- The contents at the last sync that succeeded are safe but where a write since then touched them. A call that failed counts as if it had been made or not, so it touches as much as one that succeeded.
use Rattle.std.specs.Prelude.{◌≡◌, ◌⊎◌, ⊤, ℕ, ◌+◌, ◌<◌, ◌≤◌, min, max, List, [], ◌∷◌, ◌++◌, length, take, drop, slice_index}

-- what a read gives, the contents at the last good sync, the least and the greatest length since, and the ranges that writes touched since, each by its first position and its length
pub record Disk : Type 0 where
  pub reads : List ℕ
  pub synced : List ℕ
  pub least : ℕ
  pub greatest : ℕ
  pub touched : List (ℕ × ℕ)

-- some range has this position
abbrev pub IsTouched : List (ℕ × ℕ) → ℕ → Type 0
IsTouched [] i = ⊥
IsTouched (range ∷ ranges) i = ((range.0 ≤ i) × (i < range.0 + range.1)) ⊎ IsTouched ranges i

-- no range has this position
abbrev pub IsUntouched : List (ℕ × ℕ) → ℕ → Type 0
IsUntouched [] i = ⊤
IsUntouched (range ∷ ranges) i = ((i < range.0) ⊎ (range.0 + range.1 ≤ i)) × IsUntouched ranges i

-- What a stop may leave: a length between the least and the greatest, the synced byte where no write touched, and anything elsewhere.
pub record IsImage (disk : Disk) (image : List ℕ) : Type 0 where
  pub no_shorter : disk.least ≤ length image
  pub no_longer : length image ≤ disk.greatest
  pub kept : (i : ℕ) → i < length image → i < length disk.synced → IsUntouched disk.touched i → slice_index image i ≡ slice_index disk.synced i

-- nothing is pending
abbrev pub settled : List ℕ → Disk
settled bytes = record { reads = bytes; synced = bytes; least = length bytes; greatest = length bytes; touched = [] }

-- a file with these bytes over what was there
abbrev pub overwritten : ℕ → List ℕ → List ℕ → List ℕ
overwritten at bytes file = take at file ++ bytes ++ drop (at + length bytes) file

-- after a write of n bytes that failed
abbrev pub after_failed_write : ℕ → ℕ → Disk → Disk
after_failed_write at n disk = record { reads = disk.reads; synced = disk.synced; least = disk.least; greatest = max disk.greatest (at + n); touched = disk.touched ++ (at, n) ∷ [] }

-- after a write
abbrev pub after_write : ℕ → List ℕ → Disk → Disk
after_write at bytes disk = record { reads = overwritten at bytes disk.reads; synced = disk.synced; least = disk.least; greatest = max disk.greatest (at + length bytes); touched = disk.touched ++ (at, length bytes) ∷ [] }

-- after a cut that failed
abbrev pub after_failed_cut : ℕ → Disk → Disk
after_failed_cut to disk = record { reads = disk.reads; synced = disk.synced; least = min disk.least to; greatest = disk.greatest; touched = disk.touched }

-- after a cut to this length
abbrev pub after_cut : ℕ → Disk → Disk
after_cut to disk = record { reads = take to disk.reads; synced = disk.synced; least = min disk.least to; greatest = disk.greatest; touched = disk.touched }

-- after a sync
abbrev pub after_sync : Disk → Disk
after_sync disk = settled disk.reads
