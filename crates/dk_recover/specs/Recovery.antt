-- What recovering a store answers, by what its two files gave.
use Rattle.std.specs.Prelude.{◌≡◌, ◌≢◌, ⊤, ℕ, ◌≤◌, List, length, Option, Some, None, IfSome, Result, Ok, Err}
use Rattle.dk_types.specs.declared.side.Side.{Side}
use Rattle.dk_types.specs.declared.side.Side.TheVariants.{Zero, One}
use Rattle.dk_disk.specs.DiskHistories.{DiskHistory, now}
use Rattle.dk_model.specs.DurableWorlds.{DurableWorld, empty_world}
use Rattle.dk_model.specs.Images.{world_lists}
use Rattle.dk_model.specs.Validity.{IsValid}
use Rattle.dk_model.specs.Stores.{StoreHeader, StandsOn, standing}
use Rattle.dk_model.specs.Recovered.{HoldsWorld, file_on, Recovers, NotYet}
use Rattle.dk_model.specs.Recovered as files
use Rattle.dk_journal.specs.Ranks.{IsBlankBeside}
use Rattle.dk_journal.specs.Standing.{IsReady}
use Rattle.dk_journal.specs.Stores.{HasStore}
use Rattle.dk_journal.specs.declared.journal.Journal.{Journal}
use Rattle.dk_recover.specs.declared.fault.OpenFault.{OpenFault}
use Rattle.dk_recover.specs.declared.fault.OpenFault.TheVariants.{NoMemory, DiskFault, NotAStore, WrongGame, Damaged}
use Rattle.dk_recover.specs.declared.recovery.Recovered.{Recovered}

-- where a store stands, it is of this game
abbrev pub IsOurs : List ℕ → List ℕ → List ℕ → Type 0
IsOurs zero one game = (side : Side) (header : StoreHeader) → standing zero one ≡ StandsOn side header → header.game ≡ game

-- a store stands, and it is of another game than this
abbrev pub IsOfOther : List ℕ → List ℕ → List ℕ → List ℕ → Type 0
IsOfOther zero one game found = (side : Side) × (header : StoreHeader) × (standing zero one ≡ StandsOn side header) × (header.game ≡ found) × (found ≢ game)

-- THE STORE that was found. A header of this game stands on its side, its file has its world, the journal stands behind that file's records, and nothing is pending.
pub record IsStore (zero one game : List ℕ) (past : DiskHistory) (found : Recovered) (journal : Journal) : Type 0 where
  pub header : StoreHeader
  pub world : DurableWorld
  pub stands : standing zero one ≡ StandsOn found.side header
  pub ours : header.game ≡ game
  pub holds : HoldsWorld (file_on found.side zero one) header world
  pub durable : found.durable ≡ world_lists world
  pub format : found.format ≡ header.format
  pub store : HasStore past found.side journal header holds.payloads world

-- NO STORE YET: the empty world. A store is to be made in the first file; that is blank and short, the other is blank, and nothing is pending.
pub record IsNoStore (zero one : List ℕ) (past : DiskHistory) (found : Recovered) : Type 0 where
  pub not_yet : Recovers zero one NotYet
  pub durable : found.durable ≡ world_lists empty_world
  pub side : found.side ≡ Zero
  pub format : found.format ≡ 2
  pub ready : IsReady Zero past
  pub short : length (now past Zero).reads ≤ 65
  pub beside : IsBlankBeside past One

-- its lists are those of a valid world
abbrev pub HasValidWorld : Recovered → Type 0
HasValidWorld found = (d : DurableWorld) × IsValid d × (found.durable ≡ world_lists d)

-- its journal, if there is one, is on this side
abbrev pub IsOnItsSide : Recovered → Type 0
IsOnItsSide found = IfSome found.store (λ journal. journal.side ≡ found.side)

-- a store, or none yet, by whether there is a journal
abbrev pub IsFound : List ℕ → List ℕ → List ℕ → DiskHistory → Recovered → Option Journal → Type 0
IsFound zero one game past found None = IsNoStore zero one past found
IsFound zero one game past found (Some journal) = IsStore zero one game past found journal

-- THE ANSWER: what the two files hold, or the first thing that is wrong with them. Which game the store is of comes after whether it is one, and before its records.
abbrev pub IsAnswer : List ℕ → List ℕ → List ℕ → DiskHistory → Result Recovered OpenFault → Type 0
IsAnswer zero one game past (Ok found) = IsFound zero one game past found found.store
IsAnswer zero one game past (Err (NotAStore side at)) = Recovers zero one (files.NotAStore side at)
IsAnswer zero one game past (Err (WrongGame found)) = IsOfOther zero one game found
IsAnswer zero one game past (Err (Damaged side at)) = IsOurs zero one game × Recovers zero one (files.Damaged side at)
IsAnswer zero one game past (Err NoMemory) = IsOurs zero one game
IsAnswer zero one game past (Err DiskFault) = ⊤

-- a refusal that no byte of the files decides
abbrev pub IsOfDevice : OpenFault → Type 0
IsOfDevice NoMemory = ⊤
IsOfDevice DiskFault = ⊤
IsOfDevice (NotAStore side at) = ⊥
IsOfDevice (WrongGame found) = ⊥
IsOfDevice (Damaged side at) = ⊥
