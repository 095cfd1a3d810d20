-- The record of the calls that change a file or sync it.
use Rattle.std.specs.Prelude.{⊤, ℕ, ◌≤◌, Bool, true, false, nat_le, if◌then◌else◌, List, [], ◌∷◌, length}
use Rattle.dk_types.specs.declared.side.Side.{Side}
use Rattle.dk_types.specs.declared.side.Side.TheVariants.{Zero, One}
use Rattle.dk_disk.specs.Disk.{Disk, after_write, after_failed_write, after_cut, after_failed_cut, after_sync}

-- what a call is to do
pub data Change : Type 0 where
  Write : (at : ℕ) (bytes : List ℕ) → Change
  Cut : (to : ℕ) → Change
  Sync : Change

-- a call by its number, its file, what it is to do, and whether it succeeded
pub record Call : Type 0 where
  pub number : ℕ
  pub side : Side
  pub change : Change
  pub is_made : Bool

-- A file after a call on it. A write that would leave a gap writes nothing; none is in a home's record.
abbrev pub changed : Change → Bool → Disk → Disk
changed (Write at bytes) true disk = if nat_le at (length disk.reads) then after_write at bytes disk else disk
changed (Write at bytes) false disk = after_failed_write at (length bytes) disk
changed (Cut to) true disk = after_cut to disk
changed (Cut to) false disk = after_failed_cut to disk
changed Sync true disk = after_sync disk
changed Sync false disk = disk

-- whether they are one side
abbrev pub is_side : Side → Side → Bool
is_side Zero Zero = true
is_side One One = true
is_side _ _ = false

-- a file after a call, which may be one on the other file or one that came after the moment t
abbrev pub after_one : ℕ → Side → Call → Disk → Disk
after_one t side call disk = if nat_le call.number t then (if is_side call.side side then changed call.change call.is_made disk else disk) else disk

-- a file at the moment t, after those of these calls that had come
abbrev pub replayed : ℕ → Side → List Call → Disk → Disk
replayed t side [] disk = disk
replayed t side (call ∷ calls) disk = replayed t side calls (after_one t side call disk)

-- each call has at most this number
abbrev pub AreUpTo : ℕ → List Call → Type 0
AreUpTo n [] = ⊤
AreUpTo n (call ∷ calls) = (call.number ≤ n) × AreUpTo n calls

-- a file after a call on it that succeeded and left no gap
abbrev pub made : Change → Disk → Disk
made (Write at bytes) disk = after_write at bytes disk
made (Cut to) disk = after_cut to disk
made Sync disk = after_sync disk

-- a file after a call on it that failed
abbrev pub failed : Change → Disk → Disk
failed (Write at bytes) disk = after_failed_write at (length bytes) disk
failed (Cut to) disk = after_failed_cut to disk
failed Sync disk = disk
