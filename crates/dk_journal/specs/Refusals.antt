-- Which refusals a call has.
use Rattle.std.specs.Prelude.{⊤}
use Rattle.dk_journal.specs.declared.refused.JournalRefused.{JournalRefused}
use Rattle.dk_journal.specs.declared.refused.JournalRefused.TheVariants.{DiskFault, Full, NotAStore, Damaged, NoMemory}

-- of making a file
abbrev pub IsCreateFault : JournalRefused → Type 0
IsCreateFault DiskFault = ⊤
IsCreateFault (Full length) = ⊥
IsCreateFault (NotAStore at) = ⊥
IsCreateFault (Damaged at) = ⊥
IsCreateFault NoMemory = ⊤

-- of an append, which takes no memory
abbrev pub IsAppendFault : JournalRefused → Type 0
IsAppendFault DiskFault = ⊤
IsAppendFault (Full length) = ⊤
IsAppendFault (NotAStore at) = ⊥
IsAppendFault (Damaged at) = ⊥
IsAppendFault NoMemory = ⊥

-- of reading a header, which takes no memory
abbrev pub IsOpenFault : JournalRefused → Type 0
IsOpenFault DiskFault = ⊤
IsOpenFault (Full length) = ⊥
IsOpenFault (NotAStore at) = ⊤
IsOpenFault (Damaged at) = ⊥
IsOpenFault NoMemory = ⊥

-- of reading bytes into memory
abbrev pub IsWindowFault : JournalRefused → Type 0
IsWindowFault DiskFault = ⊤
IsWindowFault (Full length) = ⊥
IsWindowFault (NotAStore at) = ⊥
IsWindowFault (Damaged at) = ⊥
IsWindowFault NoMemory = ⊤

-- of reading a record
abbrev pub IsScanFault : JournalRefused → Type 0
IsScanFault DiskFault = ⊤
IsScanFault (Full length) = ⊥
IsScanFault (NotAStore at) = ⊥
IsScanFault (Damaged at) = ⊤
IsScanFault NoMemory = ⊤
