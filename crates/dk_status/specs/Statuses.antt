-- The numbers and the lines of the statuses.
use Rattle.std.specs.Prelude.{ℕ, List, ◌++◌, codes, decimal}
use Rattle.dk_types.specs.declared.side.Side.{Side}
use Rattle.dk_types.specs.declared.side.Side.TheVariants as side
use Rattle.dk_status.specs.declared.status.Status.{Status}
use Rattle.dk_status.specs.declared.status.Status.TheVariants as status

-- the exit code
abbrev pub code_of : Status → ℕ
code_of status.Ok = 0
code_of status.NoMemory = 1
code_of status.Usage = 2
code_of status.DiskFault = 3
code_of status.ReadFault = 4
code_of status.WriteFault = 5
code_of (status.BadScript line) = 6
code_of (status.NotAStore side at) = 7
code_of (status.Damaged side at) = 8
code_of (status.WrongGame found) = 9
code_of (status.Budget granted) = 10
code_of (status.JournalFull length) = 11
code_of status.NetFault = 12
code_of (status.Exhausted next) = 13
code_of (status.MigrateTooLarge length) = 16
code_of (status.MigrateEpochEnd epoch) = 17

-- the digit in the name of a side's file
abbrev pub side_digit : Side → ℕ
side_digit side.Zero = 0
side_digit side.One = 1

-- the name of a side's file
abbrev pub file_name : Side → List ℕ
file_name side = codes "store." ++ decimal (side_digit side)

-- the line of a status, without its end; every program's text begins alike
abbrev pub status_text : Status → List ℕ
status_text status.Ok = codes "darkstar: done"
status_text status.NoMemory = codes "darkstar: out of memory"
status_text status.Usage = codes "darkstar: usage"
status_text status.DiskFault = codes "darkstar: disk fault"
status_text status.ReadFault = codes "darkstar: read fault"
status_text status.WriteFault = codes "darkstar: write fault"
status_text (status.BadScript line) = codes "darkstar: bad script at line " ++ decimal line
status_text (status.NotAStore side at) = codes "darkstar: " ++ (file_name side ++ (codes " is not a store, at " ++ decimal at))
status_text (status.Damaged side at) = codes "darkstar: " ++ (file_name side ++ (codes " is damaged, at " ++ decimal at))
status_text (status.WrongGame found) = codes "darkstar: the store is of game " ++ found
status_text (status.Budget granted) = codes "darkstar: budget of " ++ (decimal granted ++ codes " runs spent")
status_text (status.JournalFull length) = codes "darkstar: journal full at " ++ (decimal length ++ codes " bytes")
status_text status.NetFault = codes "darkstar: network fault"
status_text (status.Exhausted next) = codes "darkstar: numbers exhausted at " ++ decimal next
status_text (status.MigrateTooLarge length) = codes "darkstar: store too large to migrate, " ++ (decimal length ++ codes " bytes")
status_text (status.MigrateEpochEnd epoch) = codes "darkstar: epochs exhausted at " ++ decimal epoch
