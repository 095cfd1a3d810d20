-- What `check` and `inspect` do: the line that they write, by what both files of the home read, and why none is written.
use Rattle.std.specs.Prelude.{⊤, List, ℕ, Option, Result, Ok, Err}
use Rattle.std.specs.Io.KnownBytes.{Appends}
use Rattle.dk_types.specs.declared.side.Side.{Side}
use Rattle.dk_types.specs.declared.side.Side.TheVariants.{Zero, One}
use Rattle.dk_edge.specs.Streams.{AppendsPrefix}
use Rattle.dk_disk.specs.DiskHistories.{DiskHistory, now}
use Rattle.dk_model.specs.DurableWorlds.{DurableWorld}
use Rattle.dk_model.specs.Recovered.{Recovers, HasDurable}
use Rattle.dk_model.specs.Recovered as files
use Rattle.dk_recover.specs.Recovery.{IsOurs, IsOfOther}
use Rattle.dk_command.specs.Games.{word_of}
use Rattle.dk_command.specs.Requests.{Asks, Checks, Inspects, Report, ReportKind, Reports}
use Rattle.dk_reports.specs.Lines.{IsCheckLine, IsInspectLine}
use Rattle.dk_reports.specs.declared.fault.ReportFault.{ReportFault}
use Rattle.dk_reports.specs.declared.fault.ReportFault.TheVariants as fault
use Rattle.dk_status.specs.declared.status.Status.{Status}
use Rattle.dk_status.specs.declared.status.Status.TheVariants as status

-- where the words ask for a report, this holds of it
abbrev pub ForReport : List (List ℕ) → (Report → Type 0) → Type 0
ForReport words P = (report : Report) → Asks words (Reports report) → P report

-- what a read of this file gives
abbrev pub bytes_of : DiskHistory → Side → List ℕ
bytes_of past side = (now past side).reads

-- the line of two files for a game
abbrev pub IsLineOf : ReportKind → List ℕ → List ℕ → List ℕ → List ℕ → Type 0
IsLineOf Checks = IsCheckLine
IsLineOf Inspects = IsInspectLine

-- the line of the home's files
abbrev pub IsLine : Report → DiskHistory → List ℕ → Type 0
IsLine report past line = IsLineOf report.kind (bytes_of past Zero) (bytes_of past One) (word_of report.game) line

-- such a text was appended
abbrev pub AppendsOne : (List ℕ → Type 0) → Option (List ℕ) → Option (List ℕ) → Type 0
AppendsOne L contents contents' = (line : List ℕ) × L line × Appends contents contents' line

-- a first part of such a text was appended
abbrev pub AppendsPart : (List ℕ → Type 0) → Option (List ℕ) → Option (List ℕ) → Type 0
AppendsPart L contents contents' = (line : List ℕ) × L line × AppendsPrefix contents contents' line

-- where a store stands in the home's files, it is of the report's game
abbrev pub IsOfGame : Report → DiskHistory → Type 0
IsOfGame report past = IsOurs (bytes_of past Zero) (bytes_of past One) (word_of report.game)

-- the home's files hold this world; no store yet counts as the empty one
abbrev pub Holds : DiskHistory → DurableWorld → Type 0
Holds past d = HasDurable (bytes_of past Zero) (bytes_of past One) d

-- what the home's files are where a report ends so; no other status comes of a report
abbrev pub IsCauseOf : Report → DiskHistory → Status → Type 0
IsCauseOf report past status.Ok = ⊤
IsCauseOf report past status.NoMemory = ⊤
IsCauseOf report past status.DiskFault = ⊤
IsCauseOf report past status.WriteFault = ⊤
IsCauseOf report past (status.NotAStore side at) = Recovers (bytes_of past Zero) (bytes_of past One) (files.NotAStore side at)
IsCauseOf report past (status.Damaged side at) = IsOfGame report past × Recovers (bytes_of past Zero) (bytes_of past One) (files.Damaged side at)
IsCauseOf report past (status.WrongGame found) = IsOfOther (bytes_of past Zero) (bytes_of past One) (word_of report.game) found
IsCauseOf report past other = ⊥

-- how the program ends where no report was written whole
abbrev pub status_of_fault : ReportFault → Status
status_of_fault fault.NoMemory = status.NoMemory
status_of_fault fault.DiskFault = status.DiskFault
status_of_fault fault.WriteFault = status.WriteFault
status_of_fault (fault.NotAStore side at) = status.NotAStore side at
status_of_fault (fault.WrongGame found) = status.WrongGame found
status_of_fault (fault.Damaged side at) = status.Damaged side at

-- how the program ends after a report
abbrev pub status_of_report : {T : Type 0} → Result T ReportFault → Status
status_of_report (Ok done) = status.Ok
status_of_report (Err why) = status_of_fault why
