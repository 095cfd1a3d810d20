-- What a run of calls on one file of a home leaves, at each moment.
use Rattle.std.specs.Prelude.{◌≡◌, ◌⊎◌, ℕ, ◌<◌, ◌≤◌, true, List, [], ◌∷◌, ◌++◌, length, take}
use Rattle.dk_types.specs.declared.side.Side.{Side}
use Rattle.dk_disk.specs.Disk.{Disk, IsImage, IsUntouched, settled, overwritten, after_write, after_failed_write, after_cut, after_failed_cut}
use Rattle.dk_disk.specs.DiskHistories.{DiskHistory, now, other_side}
use Rattle.dk_model.specs.Stores.{Reads, is_blank}

-- What was stays, the other file is what it was, and this one has P at each moment since the run began.
pub record Runs (side : Side) (P : Disk → Type 0) (old new : DiskHistory) : Type 0 where
  pub later : old.clock ≤ new.clock
  pub kept : (t : ℕ) (s : Side) → t ≤ old.clock → new.disks t s ≡ old.disks t s
  pub other : (t : ℕ) → old.clock ≤ t → t ≤ new.clock → new.disks t (other_side side) ≡ now old (other_side side)
  pub each : (t : ℕ) → old.clock ≤ t → t ≤ new.clock → P (new.disks t side)

-- What was stays, and both files are what they were at each moment since.
pub record Looks (old new : DiskHistory) : Type 0 where
  pub later : old.clock ≤ new.clock
  pub kept : (t : ℕ) (s : Side) → t ≤ old.clock → new.disks t s ≡ old.disks t s
  pub each : (t : ℕ) (s : Side) → old.clock ≤ t → t ≤ new.clock → new.disks t s ≡ now old s

-- These bytes are at the front of what a read gives and of what a stop leaves: no call since the last sync reaches them.
pub record IsFrontSafe (front : List ℕ) (disk : Disk) : Type 0 where
  pub reads : take (length front) disk.reads ≡ front
  pub synced : take (length front) disk.synced ≡ front
  pub least : length front ≤ disk.least
  pub untouched : (i : ℕ) → i < length front → IsUntouched disk.touched i
  pub image : IsImage disk disk.reads

-- each image has these payloads, and maybe more
abbrev pub Holds : List ℕ → List (List ℕ) → Disk → Type 0
Holds header payloads disk = (image : List ℕ) → IsImage disk image → (more : List (List ℕ)) × Reads image header (payloads ++ more)

-- what each image holds does not fall from one moment to a later one
abbrev pub NeverFalls : List ℕ → Side → ℕ → DiskHistory → Type 0
NeverFalls header side start past =
    (t later : ℕ) (payloads : List (List ℕ)) → start ≤ t → t ≤ later → later ≤ past.clock → Holds header payloads (past.disks t side) → Holds header payloads (past.disks later side)

-- each image has these payloads, or this one more
abbrev pub HasOrNot : List ℕ → List (List ℕ) → List ℕ → Disk → Type 0
HasOrNot header payloads payload disk = (image : List ℕ) → IsImage disk image → Reads image header payloads ⊎ Reads image header (payloads ++ payload ∷ [])

-- What is true of the file from an append's first call to its last: each image has the payloads or one more, and one image has just these.
pub record IsBetween (header : List ℕ) (payloads : List (List ℕ)) (payload : List ℕ) (disk : Disk) : Type 0 where
  pub each : HasOrNot header payloads payload disk
  pub least : (image : List ℕ) × IsImage disk image × Reads image header payloads

-- nothing was written: a file is as it was, or synced as it was read
abbrev pub IsAsRead : Disk → Disk → Type 0
IsAsRead old disk = (disk ≡ old) ⊎ (disk ≡ settled old.reads)

-- a write and a sync after it, made or failed
abbrev pub IsWriting : ℕ → List ℕ → Disk → Disk → Type 0
IsWriting at bytes old disk =
    (disk ≡ old) ⊎ ((disk ≡ after_failed_write at (length bytes) old) ⊎ ((disk ≡ after_write at bytes old) ⊎ (disk ≡ settled (overwritten at bytes old.reads))))

-- a cut to nothing and a sync after it, made or failed
abbrev pub IsClearing : Disk → Disk → Type 0
IsClearing old disk = (disk ≡ old) ⊎ ((disk ≡ after_failed_cut 0 old) ⊎ ((disk ≡ after_cut 0 old) ⊎ (disk ≡ settled [])))

-- blank, with at most so many bytes
abbrev pub IsBlankUpTo : ℕ → List ℕ → Type 0
IsBlankUpTo most file = (is_blank file ≡ true) × (length file ≤ most)

-- a stop leaves something
abbrev pub HasSome : Disk → Type 0
HasSome disk = (image : List ℕ) × IsImage disk image

-- each image is blank, or is this file
abbrev pub AreBlankOr : ℕ → List ℕ → Disk → Type 0
AreBlankOr most file disk = ((image : List ℕ) → IsImage disk image → IsBlankUpTo most image ⊎ (image ≡ file)) × HasSome disk

-- each image is blank and no longer than a header and a gate, or has this header and no record
abbrev pub IsNewOrEmpty : List ℕ → Disk → Type 0
IsNewOrEmpty header disk = (image : List ℕ) → IsImage disk image → IsBlankUpTo 65 image ⊎ Reads image header []

-- each image is this file, or blank
abbrev pub AreSameOrBlank : List ℕ → Disk → Type 0
AreSameOrBlank file disk = ((image : List ℕ) → IsImage disk image → (image ≡ file) ⊎ (is_blank image ≡ true)) × HasSome disk
