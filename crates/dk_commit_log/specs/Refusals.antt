-- What a refusal of a part is to who reads a log.
use Rattle.std.specs.Prelude.{◌≡◌}
use Rattle.dk_journal.specs.declared.refused.JournalRefused.{JournalRefused}
use Rattle.dk_journal.specs.declared.refused.JournalRefused.TheVariants as journal
use Rattle.dk_commit_log.specs.declared.refused.LogRefused.{LogRefused}
use Rattle.dk_commit_log.specs.declared.refused.LogRefused.TheVariants.{DiskFault, NoMemory, Damaged}

-- a refusal of the journal
abbrev pub refusal_of : JournalRefused → LogRefused
refusal_of journal.DiskFault = DiskFault
refusal_of (journal.Full length) = DiskFault
refusal_of (journal.NotAStore at) = Damaged at
refusal_of (journal.Damaged at) = Damaged at
refusal_of journal.NoMemory = NoMemory

-- of a record that was read
abbrev pub IsOfRecord : LogRefused → Type 0
IsOfRecord DiskFault = ⊥
IsOfRecord NoMemory = Unit {0}
IsOfRecord (Damaged at) = Unit {0}
