-- What opening a store answers, how the store stands then, and what becomes of the files while it is opened.
use Rattle.std.specs.Prelude.{◌≡◌, ◌⊎◌, ⊤, ℕ, ◌+◌, ◌<◌, ◌≤◌, ◌^◌, Bool, IsTrue, List, length, Result, Ok, Err}
use Rattle.dk_types.specs.declared.side.Side.{Side}
use Rattle.dk_types.specs.declared.side.Side.TheVariants.{Zero, One}
use Rattle.dk_types.specs.declared.durable.Durable.{Durable}
use Rattle.dk_types.specs.declared.limits.TheConstants.{NUMBERS_END}
use Rattle.dk_disk.specs.Disk.{settled}
use Rattle.dk_disk.specs.DiskHistories.{DiskHistory, now, other_side}
use Rattle.dk_disk.specs.Opening.{Opening, IsOpen}
use Rattle.dk_model.specs.DurableWorlds.{DurableWorld}
use Rattle.dk_model.specs.Images.{world_lists, image_spelling}
use Rattle.dk_model.specs.Recovered.{Recovers, HasDurable}
use Rattle.dk_model.specs.Recovered as files
use Rattle.dk_model.specs.Stores.{StoreHeader, Standing, NoStore, StandsOn, NoneStands, standing}
use Rattle.dk_model.specs.Validity.{IsValid}
use Rattle.dk_journal.specs.declared.journal.Journal.{Journal}
use Rattle.dk_journal.specs.declared.refused.JournalRefused.{JournalRefused}
use Rattle.dk_journal.specs.declared.refused.JournalRefused.TheVariants as making
use Rattle.dk_journal.specs.Moments.{IsAsRead}
use Rattle.dk_journal.specs.Recoveries.{RecoverSince, HeldNeverFalls, IsWorld}
use Rattle.dk_journal.specs.Stores.{HasStore}
use Rattle.dk_checkpoint.specs.declared.refused.CheckpointRefused.{CheckpointRefused}
use Rattle.dk_checkpoint.specs.declared.refused.CheckpointRefused.TheVariants as anew
use Rattle.dk_recover.specs.Files.{OnlyReads}
use Rattle.dk_recover.specs.Recovery.{IsOurs, IsOfOther}
use Rattle.dk_recover.specs.declared.fault.OpenFault.{OpenFault as RecoverFault}
use Rattle.dk_recover.specs.declared.fault.OpenFault.TheVariants as recover
use Rattle.dk_core.specs.Listings.{world_of}
use Rattle.dk_host.specs.declared.fault.OpenFault.{OpenFault}
use Rattle.dk_host.specs.declared.fault.OpenFault.TheVariants.{NoMemory, DiskFault, NotAStore, WrongGame, Damaged, ImageTooLarge, EpochEnd}
use Rattle.dk_host.specs.declared.fault.OpenRefused.{OpenRefused}
use Rattle.dk_host.specs.declared.standing.Stood.{Stood}

-- what contracts see of an opened store: its home, its journal and the side that it stands on, its world as lists, and its game
pub record StoreOpened (H : Type 0) : Type 0 where
  pub home : H
  pub journal : Journal
  pub side : Side
  pub durable : Durable
  pub game : List ℕ

-- an opened store by its parts
abbrev pub store_opened : {H : Type 0} → H → Stood → List ℕ → StoreOpened H
store_opened home stood game = record { home = home; journal = stood.journal; side = stood.side; durable = stood.durable; game = game }

-- a store of this game stands on this side of the files, with this world, and nothing is pending on either side
pub record HoldsStore (past : DiskHistory) (journal : Journal) (side : Side) (game : List ℕ) (d : DurableWorld) : Type 0 where
  pub header : StoreHeader
  pub payloads : List (List ℕ)
  pub ours : header.game ≡ game
  pub store : HasStore past side journal header payloads d

-- its journal is of the format that is written, and on the side that is told
pub record IsPlaced (stood : Stood) : Type 0 where
  pub format : stood.journal.format ≡ 2
  pub here : stood.journal.side ≡ stood.side

-- what an opened store keeps: it is on an open home, in the format that is written, its world is valid, and it stands there
pub record IsOpenedStore (tells : Bool) (past : DiskHistory) (opens : Opening) (stood : Stood) (game : List ℕ) : Type 0 where
  pub is_open : IsOpen opens
  pub placed : IsPlaced stood
  pub valid : IsValid (world_of stood.durable)
  pub holds : IsTrue tells → HoldsStore past stood.journal stood.side game (world_of stood.durable)

-- the home, which comes back in either case
abbrev pub home_of : {H : Type 0} → Result (StoreOpened H) (OpenRefused H) → H
home_of (Ok store) = store.home
home_of (Err refused) = refused.home

-- the answer without the home
abbrev pub answer_of : {H : Type 0} → Result (StoreOpened H) (OpenRefused H) → Result Stood OpenFault
answer_of (Ok store) = Ok (record { journal = store.journal; side = store.side; durable = store.durable })
answer_of (Err refused) = Err refused.fault

-- how long the image of these lists is
abbrev pub image_length : Durable → ℕ
image_length d = length (image_spelling d)

-- Of a store that stood on this side under this header: one of the format that is written stands as it stood; one of the older format stands anew in the other file, with its image alone.
pub record IsLeftUnder (side : Side) (header : StoreHeader) (stood : Stood) : Type 0 where
  pub current : header.format ≡ 2 → (stood.side ≡ side) × (stood.journal.epoch ≡ header.epoch)
  pub anew : header.format ≡ 1 → (stood.side ≡ other_side side) × (stood.journal.epoch ≡ header.epoch + 1) × (stood.journal.length ≡ 70 + image_length stood.durable) × (image_length stood.durable < 2 ^ 32)

-- HOW THE STORE IS LEFT, by what the two files were: where there was none, it is made in the first file, and has no record
abbrev pub IsLeft : Standing → Stood → Type 0
IsLeft NoStore stood = (stood.side ≡ Zero) × (stood.journal.epoch ≡ 0) × (stood.journal.length ≡ 65)
IsLeft (StandsOn side header) stood = IsLeftUnder side header stood
IsLeft (NoneStands side at) stood = ⊥

-- a store of the older format stands under this header, with this world
pub record IsOlder (zero one : List ℕ) (header : StoreHeader) (d : DurableWorld) : Type 0 where
  pub side : Side
  pub stands : standing zero one ≡ StandsOn side header
  pub holds : files.HoldsWorld (files.file_on side zero one) header d
  pub older : header.format ≡ 1

-- the image of an older store's world has this length, which is too long
abbrev pub IsImageTooLarge : List ℕ → List ℕ → ℕ → Type 0
IsImageTooLarge zero one n = (header : StoreHeader) × ((d : DurableWorld) × IsOlder zero one header d × (n ≡ image_length (world_lists d)) × (2 ^ 32 ≤ n))

-- an older store has this epoch, which is the last; its image is not too long
abbrev pub IsAtLastEpoch : List ℕ → List ℕ → ℕ → Type 0
IsAtLastEpoch zero one n = (header : StoreHeader) × ((d : DurableWorld) × IsOlder zero one header d × (image_length (world_lists d) < 2 ^ 32) × (n ≡ header.epoch) × (n + 1 ≡ NUMBERS_END))

-- THE ANSWER: the world that two files hold and how the store is left, or the first thing that stands against it
abbrev pub IsOpenAnswer : List ℕ → List ℕ → List ℕ → Result Stood OpenFault → Type 0
IsOpenAnswer zero one game (Ok stood) = IsOurs zero one game × HasDurable zero one (world_of stood.durable) × IsLeft (standing zero one) stood
IsOpenAnswer zero one game (Err (NotAStore side at)) = Recovers zero one (files.NotAStore side at)
IsOpenAnswer zero one game (Err (WrongGame found)) = IsOfOther zero one game found
IsOpenAnswer zero one game (Err (Damaged side at)) = IsOurs zero one game × Recovers zero one (files.Damaged side at)
IsOpenAnswer zero one game (Err (ImageTooLarge n)) = IsOurs zero one game × IsImageTooLarge zero one n
IsOpenAnswer zero one game (Err (EpochEnd n)) = IsOurs zero one game × IsAtLastEpoch zero one n
IsOpenAnswer zero one game (Err NoMemory) = IsOurs zero one game
IsOpenAnswer zero one game (Err DiskFault) = ⊤

-- a store of the older format with this world may be written anew
abbrev pub MayBeAnew : List ℕ → List ℕ → DurableWorld → Type 0
MayBeAnew zero one d = (header : StoreHeader) → IsOlder zero one header d → (image_length (world_lists d) < 2 ^ 32) × (header.epoch + 1 < NUMBERS_END)

-- the world is this; or no byte of the files decides the refusal
abbrev pub IsWorldOrDevice : DurableWorld → Result Stood OpenFault → Type 0
IsWorldOrDevice d (Ok stood) = world_of stood.durable ≡ d
IsWorldOrDevice d (Err NoMemory) = ⊤
IsWorldOrDevice d (Err DiskFault) = ⊤
IsWorldOrDevice d (Err (NotAStore side at)) = ⊥
IsWorldOrDevice d (Err (WrongGame found)) = ⊥
IsWorldOrDevice d (Err (Damaged side at)) = ⊥
IsWorldOrDevice d (Err (ImageTooLarge length_)) = ⊥
IsWorldOrDevice d (Err (EpochEnd epoch)) = ⊥

-- a store of the format that is written stands
abbrev pub IsCurrent : List ℕ → List ℕ → Type 0
IsCurrent zero one = (side : Side) × ((header : StoreHeader) × (standing zero one ≡ StandsOn side header) × (header.format ≡ 2))

-- nothing was written: a store of the format that is written stood, or it was refused before the first write
abbrev pub IsUnwritten : List ℕ → List ℕ → Result Stood OpenFault → Type 0
IsUnwritten zero one (Ok stood) = IsCurrent zero one
IsUnwritten zero one (Err DiskFault) = ⊥
IsUnwritten zero one (Err NoMemory) = ⊤
IsUnwritten zero one (Err (NotAStore side at)) = ⊤
IsUnwritten zero one (Err (WrongGame found)) = ⊤
IsUnwritten zero one (Err (Damaged side at)) = ⊤
IsUnwritten zero one (Err (ImageTooLarge length_)) = ⊤
IsUnwritten zero one (Err (EpochEnd epoch)) = ⊤

-- THE WORLD IS KEPT: up to some moment of the call the files are only read. Then nothing is pending and both are as they were, and from then on each image recovers to this world, and what is held does not fall.
pub record KeepsWorld (d : DurableWorld) (old new : DiskHistory) : Type 0 where
  pub start : ℕ
  pub from : old.clock ≤ start
  pub to : start ≤ new.clock
  pub kept : (t : ℕ) (side : Side) → t ≤ old.clock → new.disks t side ≡ old.disks t side
  pub read : (t : ℕ) (side : Side) → old.clock ≤ t → t ≤ start → IsAsRead (now old side) (new.disks t side)
  pub rests : (side : Side) → new.disks start side ≡ settled (now old side).reads
  pub recovers : RecoverSince (IsWorld d) start new
  pub held : HeldNeverFalls start new

-- a fault of the disk left what was only read, or the world that the files held
abbrev pub IsLeftFaulty : DiskHistory → DiskHistory → Type 0
IsLeftFaulty old new = OnlyReads old new ⊎ ((d : DurableWorld) × (HasDurable (now old Zero).reads (now old One).reads d × KeepsWorld d old new))

-- what a refusal to recover is to one who opens the store
abbrev pub IsFaultOf : RecoverFault → OpenFault → Type 0
IsFaultOf recover.NoMemory fault = fault ≡ NoMemory
IsFaultOf recover.DiskFault fault = fault ≡ DiskFault
IsFaultOf (recover.NotAStore side at) fault = fault ≡ NotAStore side at
IsFaultOf (recover.WrongGame found) fault = fault ≡ WrongGame found
IsFaultOf (recover.Damaged side at) fault = fault ≡ Damaged side at

-- what a refusal to make a journal is to one who opens the store
abbrev pub IsFaultMaking : JournalRefused → OpenFault → Type 0
IsFaultMaking making.DiskFault fault = fault ≡ DiskFault
IsFaultMaking (making.Full n) fault = ⊥
IsFaultMaking (making.NotAStore at) fault = ⊥
IsFaultMaking (making.Damaged at) fault = ⊥
IsFaultMaking making.NoMemory fault = fault ≡ NoMemory

-- of making a store
abbrev pub IsMakingFault : OpenFault → Type 0
IsMakingFault NoMemory = ⊤
IsMakingFault DiskFault = ⊤
IsMakingFault (NotAStore side at) = ⊥
IsMakingFault (WrongGame found) = ⊥
IsMakingFault (Damaged side at) = ⊥
IsMakingFault (ImageTooLarge length_) = ⊥
IsMakingFault (EpochEnd epoch) = ⊥

-- what a refusal to write a store anew is to one who opens it
abbrev pub IsFaultAnew : CheckpointRefused → OpenFault → Type 0
IsFaultAnew anew.DiskFault fault = fault ≡ DiskFault
IsFaultAnew (anew.TooLarge n) fault = fault ≡ ImageTooLarge n
IsFaultAnew (anew.EpochEnd n) fault = fault ≡ EpochEnd n
IsFaultAnew anew.NoMemory fault = fault ≡ NoMemory

-- of writing a store anew
abbrev pub IsAnewFault : OpenFault → Type 0
IsAnewFault NoMemory = ⊤
IsAnewFault DiskFault = ⊤
IsAnewFault (NotAStore side at) = ⊥
IsAnewFault (WrongGame found) = ⊥
IsAnewFault (Damaged side at) = ⊥
IsAnewFault (ImageTooLarge length_) = ⊤
IsAnewFault (EpochEnd epoch) = ⊤

-- the lists are those of a valid world
abbrev pub HasValidLists : Durable → Type 0
HasValidLists lists = (d : DurableWorld) × IsValid d × (lists ≡ world_lists d)

-- a store without records in the first file, with these lists
pub record IsMade (durable : Durable) (stood : Stood) : Type 0 where
  pub lists : stood.durable ≡ durable
  pub side : stood.side ≡ Zero
  pub placed : IsPlaced stood
  pub epoch : stood.journal.epoch ≡ 0
  pub length_ : stood.journal.length ≡ 65

-- the same world in the other file, under the next epoch, with its image alone
pub record IsMadeAnew (old stood : Stood) : Type 0 where
  pub lists : stood.durable ≡ old.durable
  pub side : stood.side ≡ other_side old.side
  pub placed : IsPlaced stood
  pub epoch : stood.journal.epoch ≡ old.journal.epoch + 1
  pub length_ : stood.journal.length ≡ 70 + image_length old.durable
  pub short : image_length old.durable < 2 ^ 32
