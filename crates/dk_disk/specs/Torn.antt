-- Which image a crash gives.
use Rattle.std.specs.Prelude.{◌≡◌, ◌⊎◌, ℕ, ◌<◌, ◌≤◌, List, length, slice_index}
use Rattle.dk_disk.specs.Disk.{Disk, IsTouched, IsUntouched}
use Rattle.dk_disk.specs.DiskHistories.{DiskHistory}
use Rattle.dk_types.specs.declared.side.Side.TheVariants.{Zero, One}
use Rattle.dk_disk.specs.declared.torn.Torn.{Torn}
use Rattle.dk_disk.specs.declared.torn.Torn.TheVariants.{Old, New, Zeros, Ones}

-- of this length, the byte of the first list where no range is, and this byte elsewhere
pub record IsFilledOver (fill size : ℕ) (synced : List ℕ) (touched : List (ℕ × ℕ)) (image : List ℕ) : Type 0 where
  pub length_is : length image ≡ size
  pub kept : (i : ℕ) → i < size → i < length synced → IsUntouched touched i → slice_index image i ≡ slice_index synced i
  pub filled : (i : ℕ) → i < size → (length synced ≤ i) ⊎ IsTouched touched i → slice_index image i ≡ fill

-- the safe bytes of a file at this length, and this byte elsewhere
abbrev pub IsFilled : ℕ → ℕ → Disk → List ℕ → Type 0
IsFilled fill size disk image = IsFilledOver fill size disk.synced disk.touched image

-- the image that was asked for
abbrev pub IsTorn : Torn → Disk → List ℕ → Type 0
IsTorn Old disk image = image ≡ disk.synced
IsTorn New disk image = image ≡ disk.reads
IsTorn Zeros disk image = IsFilled 0 disk.least disk image
IsTorn Ones disk image = IsFilled 255 disk.greatest disk image

-- the images of both files that were asked for, at this moment
abbrev pub AreTorn : Torn → DiskHistory → ℕ → List ℕ → List ℕ → Type 0
AreTorn torn past t zero one = IsTorn torn (past.disks t Zero) zero × IsTorn torn (past.disks t One) one

-- this byte at the places from start to before end, and elsewhere what was there
pub record IsPainted (start end fill : ℕ) (old new : List ℕ) : Type 0 where
  pub length_is : length new ≡ length old
  pub inside : (i : ℕ) → start ≤ i → i < end → slice_index new i ≡ fill
  pub outside : (i : ℕ) → (i < start) ⊎ (end ≤ i) → slice_index new i ≡ slice_index old i
