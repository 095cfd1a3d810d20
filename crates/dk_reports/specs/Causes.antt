-- Why nothing is reported, and whether the home was opened.
use Rattle.std.specs.Prelude.{◌≡◌, ⊤, List, ℕ}
use Rattle.dk_disk.specs.Opening.{Opening, NotCalled, Refused, Opened}
use Rattle.dk_model.specs.Recovered.{Recovers}
use Rattle.dk_model.specs.Recovered as files
use Rattle.dk_recover.specs.Recovery.{IsOurs, IsOfOther}
use Rattle.dk_recover.specs.declared.fault.OpenFault.{OpenFault}
use Rattle.dk_recover.specs.declared.fault.OpenFault.TheVariants as opened
use Rattle.dk_reports.specs.declared.fault.ReportFault.{ReportFault}
use Rattle.dk_reports.specs.declared.fault.ReportFault.TheVariants.{NoMemory, DiskFault, WriteFault, NotAStore, WrongGame, Damaged}

-- What the bytes of both files say where this fault comes: they are no store, one of another game, or one of this game that is damaged there. Of the faults of memory and devices they say at most that no other game's store stands.
abbrev pub IsCause : List ℕ → List ℕ → List ℕ → ReportFault → Type 0
IsCause zero one game NoMemory = IsOurs zero one game
IsCause zero one game DiskFault = ⊤
IsCause zero one game WriteFault = IsOurs zero one game
IsCause zero one game (NotAStore side at) = Recovers zero one (files.NotAStore side at)
IsCause zero one game (WrongGame found) = IsOfOther zero one game found
IsCause zero one game (Damaged side at) = IsOurs zero one game × Recovers zero one (files.Damaged side at)

-- a fault that no byte of the files decides
abbrev pub IsOfDevice : ReportFault → Type 0
IsOfDevice NoMemory = ⊤
IsOfDevice DiskFault = ⊤
IsOfDevice WriteFault = ⊤
IsOfDevice (NotAStore side at) = ⊥
IsOfDevice (WrongGame found) = ⊥
IsOfDevice (Damaged side at) = ⊥

-- what a fault of recovering is to who asks for a report
abbrev pub fault_of : OpenFault → ReportFault
fault_of opened.NoMemory = NoMemory
fault_of opened.DiskFault = DiskFault
fault_of (opened.NotAStore side at) = NotAStore side at
fault_of (opened.WrongGame found) = WrongGame found
fault_of (opened.Damaged side at) = Damaged side at

-- a home that was opened with this folder's name, if at all
abbrev pub IsOpenedAt : List ℕ → Opening → Type 0
IsOpenedAt dir NotCalled = ⊤
IsOpenedAt dir (Refused asked) = asked ≡ dir
IsOpenedAt dir (Opened asked) = asked ≡ dir
