-- What a scan's refusal is to one who opens the store.
use Rattle.std.proofs.Common.{◌≡◌, ℕ, List, Err, refl, sym, subst}
use Rattle.dk_types.specs.declared.side.Side.{Side}
use Rattle.dk_model.specs.Stores.{StoreHeader}
use Rattle.dk_model.specs.Recovered.{IsDamaged}
use Rattle.dk_journal.specs.Refusals.{IsScanFault}
use Rattle.dk_journal.specs.declared.refused.JournalRefused.{JournalRefused}
use Rattle.dk_journal.specs.declared.refused.JournalRefused.TheVariants as journal
use Rattle.dk_recover.specs.declared.fault.OpenFault.{OpenFault}
use Rattle.dk_recover.specs.declared.fault.OpenFault.TheVariants.{NoMemory, DiskFault, NotAStore, Damaged}
use Rattle.dk_recover.specs.Records.{IsStep, IsFaultOf}

pub fault_step : (file : List ℕ) (header : StoreHeader) (done : List (List ℕ)) (at end : ℕ) (v : JournalRefused) (side : Side) (f : OpenFault) → IsFaultOf v side f → IsScanFault v
    → ((place : ℕ) → v ≡ journal.Damaged place → IsDamaged file header place) → IsStep file header done at end (Err f)
fault_step file header done at end (journal.Damaged place) side f is scan damaged = subst (λ (x : OpenFault). IsStep file header done at end (Err x)) (sym is) (damaged place refl)
fault_step file header done at end journal.NoMemory side f is scan damaged = subst (λ (x : OpenFault). IsStep file header done at end (Err x)) (sym is) tt
fault_step file header done at end journal.DiskFault side f is scan damaged = subst (λ (x : OpenFault). IsStep file header done at end (Err x)) (sym is) tt
fault_step file header done at end (journal.Full length) side f is scan damaged = absurd scan
fault_step file header done at end (journal.NotAStore place) side f is scan damaged = absurd scan

pub fault_side : (v : JournalRefused) (here : Side) (f : OpenFault) → IsFaultOf v here f → IsScanFault v → (side : Side) (place : ℕ) → f ≡ Damaged side place → side ≡ here
fault_side (journal.Damaged p) here f is scan side place e = cc
fault_side journal.NoMemory here f is scan side place e = cc
fault_side journal.DiskFault here f is scan side place e = cc
fault_side (journal.Full length) here f is scan side place e = absurd scan
fault_side (journal.NotAStore p) here f is scan side place e = absurd scan

pub fault_disk : (v : JournalRefused) (here : Side) (f : OpenFault) → IsFaultOf v here f → IsScanFault v → f ≡ DiskFault → v ≡ journal.DiskFault
fault_disk (journal.Damaged p) here f is scan e = cc
fault_disk journal.NoMemory here f is scan e = cc
fault_disk journal.DiskFault here f is scan e = refl
fault_disk (journal.Full length) here f is scan e = absurd scan
fault_disk (journal.NotAStore p) here f is scan e = absurd scan

pub disk_fault : (v : JournalRefused) (here : Side) (f : OpenFault) → IsFaultOf v here f → v ≡ journal.DiskFault → f ≡ DiskFault
disk_fault (journal.Damaged p) here f is e = absurd cc
disk_fault journal.NoMemory here f is e = absurd cc
disk_fault journal.DiskFault here f is e = is
disk_fault (journal.Full length) here f is e = is
disk_fault (journal.NotAStore p) here f is e = is
