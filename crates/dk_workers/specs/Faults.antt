-- Why a play comes to an end before its script does.
use Rattle.std.specs.Prelude.{◌≡◌, ◌<◌, ◌^◌, Option, Some, None, Result, Ok, Err}
use Rattle.dk_types.specs.declared.limits.TheConstants.{NUMBERS_END}
use Rattle.dk_workers.specs.declared.worked.Worked.{Worked}
use Rattle.dk_workers.specs.declared.worked.Worked.TheVariants as worked
use Rattle.dk_workers.specs.declared.play.fault.PlayFault.{PlayFault}
use Rattle.dk_workers.specs.declared.play.fault.PlayFault.TheVariants as fault

-- by which fault a play ends before the main pass works: by none where nothing was left to run, or the budget was spent
abbrev pub early_end : Worked → Option PlayFault
early_end worked.Idle = None
early_end (worked.Spent granted) = None
early_end (worked.Exhausted next) = Some (fault.Exhausted next)
early_end worked.DiskFault = Some fault.DiskFault
early_end (worked.Stopped faults) = Some fault.DiskFault
early_end (worked.JournalFull length) = Some (fault.JournalFull length)
early_end worked.NoMemory = Some fault.NoMemory

-- what the main pass's answer is to a play: a stopped store is a fault of its disk
abbrev pub main_end : Worked → Result (Unit {0}) PlayFault
main_end worked.Idle = Ok tt
main_end (worked.Spent granted) = Err (fault.Budget granted)
main_end (worked.Exhausted next) = Err (fault.Exhausted next)
main_end worked.DiskFault = Err fault.DiskFault
main_end (worked.Stopped faults) = Err fault.DiskFault
main_end (worked.JournalFull length) = Err (fault.JournalFull length)
main_end worked.NoMemory = Err fault.NoMemory

-- a line is not entered for want of memory, or of a number
abbrev pub IsLineFault : PlayFault → Type 0
IsLineFault fault.NoMemory = Unit {0}
IsLineFault (fault.Exhausted next) = next ≡ NUMBERS_END
IsLineFault fault.DiskFault = ⊥
IsLineFault (fault.Budget granted) = ⊥
IsLineFault (fault.JournalFull length) = ⊥

-- a worker comes to an end for want of memory or of a number, by a fault of the disk, or at the journal's end
abbrev pub IsWorkFault : PlayFault → Type 0
IsWorkFault fault.NoMemory = Unit {0}
IsWorkFault (fault.Exhausted next) = next ≡ NUMBERS_END
IsWorkFault fault.DiskFault = Unit {0}
IsWorkFault (fault.Budget granted) = ⊥
IsWorkFault (fault.JournalFull length) = 2 ^ 40 < length
