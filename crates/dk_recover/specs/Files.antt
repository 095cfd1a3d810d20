-- What becomes of two files while they are read.
use Rattle.std.specs.Prelude.{◌≡◌, ℕ, ◌≤◌}
use Rattle.dk_types.specs.declared.side.Side.{Side}
use Rattle.dk_disk.specs.Disk.{settled}
use Rattle.dk_disk.specs.DiskHistories.{DiskHistory, now}
use Rattle.dk_journal.specs.Moments.{IsAsRead}

-- Nothing was written: at each moment since, each file is as it was, or synced as it was read.
pub record OnlyReads (old new : DiskHistory) : Type 0 where
  pub later : old.clock ≤ new.clock
  pub kept : (t : ℕ) (s : Side) → t ≤ old.clock → new.disks t s ≡ old.disks t s
  pub each : (t : ℕ) (s : Side) → old.clock ≤ t → t ≤ new.clock → IsAsRead (now old s) (new.disks t s)

-- from this moment on nothing is pending, and both files are what a read gave
pub record IsSettledFrom (start : ℕ) (old new : DiskHistory) : Type 0 where
  pub from : old.clock ≤ start
  pub to : start ≤ new.clock
  pub since : (t : ℕ) (s : Side) → start ≤ t → t ≤ new.clock → new.disks t s ≡ settled (now old s).reads

-- from some moment of the call on
abbrev pub Settles : DiskHistory → DiskHistory → Type 0
Settles old new = (start : ℕ) × IsSettledFrom start old new
