-- Which of two files stands, as it was found.
use Rattle.std.specs.Prelude.{◌≡◌, ⊤, List, ℕ, Option, Some, None, Result, Ok, Err}
use Rattle.dk_model.specs.Stores.{StandsOn, NoStore, NoneStands, standing}
use Rattle.dk_model.specs.Recovered.{file_on}
use Rattle.dk_journal.specs.Headers.{store_header}
use Rattle.dk_journal.specs.Opened.{IsOpened}
use Rattle.dk_journal.specs.declared.header.Header.{Header}
use Rattle.dk_journal.specs.declared.scan.Scan.{Scan}
use Rattle.dk_recover.specs.declared.fault.OpenFault.{OpenFault}
use Rattle.dk_recover.specs.declared.fault.OpenFault.TheVariants.{NoMemory, DiskFault, NotAStore, WrongGame, Damaged}

-- the file that stands was opened
pub record IsStanding (zero one : List ℕ) (header : Header) (scan : Scan) : Type 0 where
  pub stands : standing zero one ≡ StandsOn scan.side (store_header header)
  pub opened : IsOpened (file_on scan.side zero one) scan.side header scan

-- no store yet, the file that stands, or where what is no store
abbrev pub IsStood : List ℕ → List ℕ → Result (Option (Header × Scan)) OpenFault → Type 0
IsStood zero one (Ok None) = standing zero one ≡ NoStore
IsStood zero one (Ok (Some found)) = IsStanding zero one found.0 found.1
IsStood zero one (Err (NotAStore side at)) = standing zero one ≡ NoneStands side at
IsStood zero one (Err NoMemory) = ⊤
IsStood zero one (Err DiskFault) = ⊤
IsStood zero one (Err (WrongGame found)) = ⊤
IsStood zero one (Err (Damaged side at)) = ⊤

-- of looking for the file that stands, which takes no memory
abbrev pub IsStandingFault : OpenFault → Type 0
IsStandingFault NoMemory = ⊥
IsStandingFault DiskFault = ⊤
IsStandingFault (NotAStore side at) = ⊤
IsStandingFault (WrongGame found) = ⊥
IsStandingFault (Damaged side at) = ⊥
