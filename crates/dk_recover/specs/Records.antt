-- One record read after others.
use Rattle.std.specs.Prelude.{◌≡◌, ⊤, ℕ, ◌+◌, Bool, true, false, List, [], ◌∷◌, ◌++◌, Result, Ok, Err}
use Rattle.dk_model.specs.DurableWorlds.{DurableWorld}
use Rattle.dk_model.specs.Stores.{StoreHeader, header_spelling, end_of, Reads}
use Rattle.dk_model.specs.Recovered.{HasWorld, IsDamaged}
use Rattle.dk_journal.specs.Scanning.{IsScanned}
use Rattle.dk_journal.specs.declared.journal.Journal.{Journal}
use Rattle.dk_journal.specs.declared.refused.JournalRefused.{JournalRefused}
use Rattle.dk_journal.specs.declared.refused.JournalRefused.TheVariants as journal
use Rattle.dk_types.specs.declared.side.Side.{Side}
use Rattle.dk_recover.specs.declared.fault.OpenFault.{OpenFault}
use Rattle.dk_recover.specs.declared.fault.OpenFault.TheVariants.{NoMemory, DiskFault, NotAStore, WrongGame, Damaged}

-- one more record stands before the next gate and has a world
abbrev pub HasMore : List ℕ → StoreHeader → List (List ℕ) → ℕ → ℕ → DurableWorld → Type 0
HasMore file header done at end d = (payload : List ℕ) × IsScanned file (header_spelling header) (done ++ payload ∷ []) at end × HasWorld header (done ++ payload ∷ []) d

-- after a step from these records: the end, with their world; one record more; or damage
abbrev pub IsStepOf : List ℕ → StoreHeader → List (List ℕ) → ℕ → ℕ → DurableWorld → Bool → Type 0
IsStepOf file header done at end d true = Reads file (header_spelling header) done × HasWorld header done d
IsStepOf file header done at end d false = HasMore file header done at end d

-- what reading one record answers
abbrev pub IsStep : List ℕ → StoreHeader → List (List ℕ) → ℕ → ℕ → Result (DurableWorld × Bool) OpenFault → Type 0
IsStep file header done at end (Ok r) = IsStepOf file header done at end r.0 r.1
IsStep file header done at end (Err (Damaged side place)) = IsDamaged file header place
IsStep file header done at end (Err NoMemory) = ⊤
IsStep file header done at end (Err DiskFault) = ⊤
IsStep file header done at end (Err (NotAStore side place)) = ⊥
IsStep file header done at end (Err (WrongGame found)) = ⊥

-- the image stands before the next gate, and this is its world; or a refusal as of a record behind none
abbrev pub IsFirst : List ℕ → StoreHeader → ℕ → ℕ → Result DurableWorld OpenFault → Type 0
IsFirst file header at end (Ok first) = HasMore file header [] at end first
IsFirst file header at end (Err fault) = IsStep file header [] at end (Err fault)

-- all records, with their world and the journal; or damage
abbrev pub IsWhole : List ℕ → StoreHeader → Result (DurableWorld × Journal) OpenFault → Type 0
IsWhole file header (Ok r) = (payloads : List (List ℕ)) × Reads file (header_spelling header) payloads × HasWorld header payloads r.0 × (r.1.length ≡ end_of (header_spelling header) payloads + 1)
IsWhole file header (Err (Damaged side place)) = IsDamaged file header place
IsWhole file header (Err NoMemory) = ⊤
IsWhole file header (Err DiskFault) = ⊤
IsWhole file header (Err (NotAStore side place)) = ⊥
IsWhole file header (Err (WrongGame found)) = ⊥

-- what a scan's refusal is to one who opens the store
abbrev pub IsFaultOf : JournalRefused → Side → OpenFault → Type 0
IsFaultOf (journal.Damaged place) side fault = fault ≡ Damaged side place
IsFaultOf journal.NoMemory side fault = fault ≡ NoMemory
IsFaultOf journal.DiskFault side fault = fault ≡ DiskFault
IsFaultOf (journal.Full length) side fault = fault ≡ DiskFault
IsFaultOf (journal.NotAStore place) side fault = fault ≡ DiskFault
