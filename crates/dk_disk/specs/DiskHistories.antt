-- The moments of a home: one clock for both of its files.
use Rattle.std.specs.Prelude.{◌≡◌, ◌⊎◌, ℕ, ◌<◌, ◌≤◌, List}
use Rattle.dk_types.specs.declared.side.Side.{Side}
use Rattle.dk_types.specs.declared.side.Side.TheVariants.{Zero, One}
use Rattle.dk_disk.specs.Disk.{Disk, IsImage}

-- the moment, and what each file was at every moment up to it
pub record DiskHistory : Type 0 where
  pub clock : ℕ
  pub disks : ℕ → Side → Disk

-- the file as it is
abbrev pub now : DiskHistory → Side → Disk
now past side = past.disks past.clock side

-- the side that this is not
abbrev pub other_side : Side → Side
other_side Zero = One
other_side One = Zero

-- a stop at this moment may have left these two files
abbrev pub MayLeave : DiskHistory → ℕ → List ℕ → List ℕ → Type 0
MayLeave past t zero one = IsImage (past.disks t Zero) zero × IsImage (past.disks t One) one

-- Time goes on: what was stays, and each later moment has what there is now. What a read gives is an image.
pub record Elapses (old new : DiskHistory) : Type 0 where
  pub later : old.clock ≤ new.clock
  pub kept : (t : ℕ) (side : Side) → t ≤ old.clock → new.disks t side ≡ old.disks t side
  pub since : (t : ℕ) (side : Side) → old.clock < t → t ≤ new.clock → new.disks t side ≡ now new side
  pub image : (side : Side) → IsImage (now new side) (now new side).reads

-- both files are what they were
abbrev pub Stays : DiskHistory → DiskHistory → Type 0
Stays old new = (side : Side) → now new side ≡ now old side

-- one file has become this, and the other is what it was
pub record Becomes (side : Side) (disk : Disk) (old new : DiskHistory) : Type 0 where
  pub this : now new side ≡ disk
  pub other : now new (other_side side) ≡ now old (other_side side)

-- A call that failed did nothing, or counts as made or not.
abbrev pub MayBecome : Side → Disk → Disk → DiskHistory → DiskHistory → Type 0
MayBecome side failed made old new = Stays old new ⊎ (Becomes side failed old new ⊎ Becomes side made old new)
