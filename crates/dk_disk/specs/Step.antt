-- What a call on a file is to do, as the code has it.
use Rattle.std.specs.Prelude.{ℕ, ◌+◌, ◌≤◌, ◌<◌, ◌^◌, ⊤, List, [], length, take}
use Rattle.dk_disk.specs.Disk.{overwritten}
use Rattle.dk_disk.specs.Record.{Change, Write, Cut, Sync}
use Rattle.dk_disk.specs.declared.step.Step.{Step}
use Rattle.dk_disk.specs.declared.step.Step.TheVariants as step

-- what a step is to change
abbrev pub change_of : Step → Change
change_of (step.Write at bytes) = Write at bytes.now
change_of (step.Cut to) = Cut to
change_of step.Sync = Sync

-- how many bytes it writes
abbrev pub step_size : Step → ℕ
step_size (step.Write at bytes) = length bytes.now
step_size (step.Cut to) = 0
step_size step.Sync = 0

-- it leaves no gap
abbrev pub IsWithin : Step → List ℕ → Type 0
IsWithin (step.Write at bytes) file = at ≤ length file
IsWithin (step.Cut to) file = ⊤
IsWithin step.Sync file = ⊤

-- what a file reads as after it
abbrev pub reads_after : Step → List ℕ → List ℕ
reads_after (step.Write at bytes) file = overwritten at bytes.now file
reads_after (step.Cut to) file = take to file
reads_after step.Sync file = file

-- its range is one of numbers that 64 bits hold
abbrev pub IsAddressable : Step → Type 0
IsAddressable (step.Write at bytes) = at + length bytes.now < 2 ^ 64
IsAddressable (step.Cut to) = ⊤
IsAddressable step.Sync = ⊤

-- the bytes that it writes
abbrev pub bytes_of : Step → List ℕ
bytes_of (step.Write at bytes) = bytes.now
bytes_of (step.Cut to) = []
bytes_of step.Sync = []
