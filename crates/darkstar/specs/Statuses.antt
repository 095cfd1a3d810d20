-- Which statuses a command may end with.
use Rattle.std.specs.Prelude.{◌≡◌, ⊤, ℕ}
use Rattle.dk_status.specs.declared.status.Status.{Status}
use Rattle.dk_status.specs.declared.status.Status.TheVariants as status

-- for bytes with this bad line BadScript comes with its number, or what comes before it
abbrev pub ComesForBadLine : ℕ → Status → Type 0
ComesForBadLine line status.NoMemory = ⊤
ComesForBadLine line status.ReadFault = ⊤
ComesForBadLine line (status.BadScript told) = told ≡ line
ComesForBadLine line other = ⊥

-- done, or without memory
abbrev pub IsOkOrNoMemory : Status → Type 0
IsOkOrNoMemory status.Ok = ⊤
IsOkOrNoMemory status.NoMemory = ⊤
IsOkOrNoMemory other = ⊥

-- done, or a fault that neither the words, the script nor the files decide
abbrev pub IsOkOrLimit : Status → Type 0
IsOkOrLimit status.Ok = ⊤
IsOkOrLimit status.NoMemory = ⊤
IsOkOrLimit status.DiskFault = ⊤
IsOkOrLimit status.WriteFault = ⊤
IsOkOrLimit (status.Budget granted) = ⊤
IsOkOrLimit (status.JournalFull length) = ⊤
IsOkOrLimit (status.Exhausted next) = ⊤
IsOkOrLimit other = ⊥

-- done, or a fault that neither the words nor the files decide
abbrev pub IsOkOrOfDevice : Status → Type 0
IsOkOrOfDevice status.Ok = ⊤
IsOkOrOfDevice status.NoMemory = ⊤
IsOkOrOfDevice status.DiskFault = ⊤
IsOkOrOfDevice status.WriteFault = ⊤
IsOkOrOfDevice other = ⊥

-- where a line is told, this holds of its number
abbrev pub IfBadScript : Status → (ℕ → Type 0) → Type 0
IfBadScript (status.BadScript line) P = P line
IfBadScript other P = ⊤

-- done, or an end of the budget, the journal or the numbers
abbrev pub IsOkOrEnd : Status → Type 0
IsOkOrEnd status.Ok = ⊤
IsOkOrEnd status.NoMemory = ⊤
IsOkOrEnd (status.Budget granted) = ⊤
IsOkOrEnd (status.JournalFull length) = ⊤
IsOkOrEnd (status.Exhausted next) = ⊤
IsOkOrEnd other = ⊥

-- the script was not read, so that no folder was opened
abbrev pub IsUnread : Status → Type 0
IsUnread status.ReadFault = ⊤
IsUnread (status.BadScript line) = ⊤
IsUnread other = ⊥

-- how a play may end once its folder is open
abbrev pub IsOfOpened : Status → Type 0
IsOfOpened status.Usage = ⊥
IsOfOpened status.ReadFault = ⊥
IsOfOpened status.NetFault = ⊥
IsOfOpened (status.BadScript line) = ⊥
IsOfOpened other = ⊤

-- done, without memory, or a fault of the sink
abbrev pub IsWrittenOrNoMemory : Status → Type 0
IsWrittenOrNoMemory status.Ok = ⊤
IsWrittenOrNoMemory status.NoMemory = ⊤
IsWrittenOrNoMemory status.WriteFault = ⊤
IsWrittenOrNoMemory other = ⊥
