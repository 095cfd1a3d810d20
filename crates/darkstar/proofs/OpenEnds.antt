-- What is left where no store was opened for a play, and how the program ends then.
use Rattle.std.proofs.Common.{◌⊎◌, ⊎_elim, inl, inr, ℕ, Bool, true, false, IsTrue, List, Err, IsErrOf, refl, sym, subst}
use Rattle.dk_types.specs.declared.side.Side.TheVariants.{Zero, One}
use Rattle.dk_disk.specs.DiskHistories.{DiskHistory}
use Rattle.dk_model.specs.declared.script.Line.{Line}
use Rattle.dk_model.specs.DurableWorlds.{DurableWorld}
use Rattle.dk_model.specs.Lawful.{AreLawful}
use Rattle.dk_model.specs.Recovered.{HasDurable, Holding, Recovers}
use Rattle.dk_model.specs.Validity.{IsValid}
use Rattle.dk_image.proofs.Worlds.{empty_valid, world_valid}
use Rattle.dk_recover.specs.Files.{OnlyReads, Settles}
use Rattle.dk_host.specs.OpenedStores.{IsLeftFaulty, IsOpenAnswer, IsUnwritten, IsWorldOrDevice, KeepsWorld}
use Rattle.dk_host.specs.declared.fault.OpenFault.{OpenFault}
use Rattle.dk_host.specs.declared.fault.OpenFault.TheVariants as fault
use Rattle.dk_host.specs.declared.standing.Stood.{Stood}
use Rattle.dk_status.specs.declared.status.Status.{Status}
use Rattle.darkstar.specs.Ends.{status_of_opening}
use Rattle.darkstar.specs.Reports.{bytes_of}
use Rattle.darkstar.specs.Runs.{IsPlayEnd, Keeps, KeepsScript, PlayTerms, opened_with, passage}
use Rattle.darkstar.specs.Statuses.{IsOkOrLimit}
use Rattle.darkstar.proofs.RunLaws.{none_of_script, runs_none}

-- a world that files hold is valid
held_valid : (z o : List ℕ) (d : DurableWorld) → HasDurable z o d → IsValid d
held_valid z o d has = ⊎_elim
    (λ (there : Recovers z o (Holding d)). world_valid there.1.0 there.1.2.payloads d there.1.2.world)
    (λ empty. subst IsValid (sym empty.1) empty_valid)
    has

module _ (terms : PlayTerms) (lawful : AreLawful terms.rules) (s : Status) (old new : DiskHistory) (before after : ℕ) where
  abbrev z : List ℕ
  z = bytes_of old Zero

  abbrev o : List ℕ
  o = bytes_of old One

  faulty_keeps : (tells : Bool) → (IsTrue tells → IsLeftFaulty old new) → Keeps terms (passage tells old new before after) s
  faulty_keeps true faulty = ⊎_elim
      (λ (only : OnlyReads old new). inl (λ told. only))
      (λ (w : (d : DurableWorld) × (HasDurable z o d × KeepsWorld d old new)). inr (record {
        world = w.0;
        held = λ told. w.1.0;
        on = runs_none (opened_with terms w.0) lawful terms.workers old s new before after (held_valid z o w.0 w.1.0) true (λ told. w.1.1);
      }))
      (faulty refl)
  faulty_keeps false faulty = inl (λ told. absurd cc)

  faulty_begun : (script : List (List Line)) (tells : Bool) → (IsTrue tells → IsLeftFaulty old new) → KeepsScript terms (passage tells old new before after) s script
  faulty_begun script true faulty = ⊎_elim
      (λ (only : OnlyReads old new). inl (λ told. only))
      (λ (w : (d : DurableWorld) × (HasDurable z o d × KeepsWorld d old new)).
      inr (none_of_script terms lawful s script true old new before after w.0 (held_valid z o w.0 w.1.0) (λ told. w.1.0) (λ told. w.1.1)))
      (faulty refl)
  faulty_begun script false faulty = inl (λ told. absurd cc)

  module _ (tells : Bool) where
    -- nothing was written, or the world that the files held is kept
    pub refused_keeps : (f : OpenFault)
        → (IsTrue tells → IsUnwritten z o (Err f) → OnlyReads old new × Settles old new)
        → (IsTrue tells → IsErrOf {T = Stood} (Err f) fault.DiskFault → IsLeftFaulty old new) → Keeps terms (passage tells old new before after) s
    refused_keeps fault.NoMemory reads faulty = inl (λ told. (reads told tt).0)
    refused_keeps fault.DiskFault reads faulty = faulty_keeps tells (λ told. faulty told refl)
    refused_keeps (fault.NotAStore side at) reads faulty = inl (λ told. (reads told tt).0)
    refused_keeps (fault.WrongGame found) reads faulty = inl (λ told. (reads told tt).0)
    refused_keeps (fault.Damaged side at) reads faulty = inl (λ told. (reads told tt).0)
    refused_keeps (fault.ImageTooLarge n) reads faulty = inl (λ told. (reads told tt).0)
    refused_keeps (fault.EpochEnd n) reads faulty = inl (λ told. (reads told tt).0)

    -- and nothing of any script was entered
    pub refused_begun : (script : List (List Line)) (f : OpenFault)
        → (IsTrue tells → IsUnwritten z o (Err f) → OnlyReads old new × Settles old new)
        → (IsTrue tells → IsErrOf {T = Stood} (Err f) fault.DiskFault → IsLeftFaulty old new) → KeepsScript terms (passage tells old new before after) s script
    refused_begun script fault.NoMemory reads faulty = inl (λ told. (reads told tt).0)
    refused_begun script fault.DiskFault reads faulty = faulty_begun script tells (λ told. faulty told refl)
    refused_begun script (fault.NotAStore side at) reads faulty = inl (λ told. (reads told tt).0)
    refused_begun script (fault.WrongGame found) reads faulty = inl (λ told. (reads told tt).0)
    refused_begun script (fault.Damaged side at) reads faulty = inl (λ told. (reads told tt).0)
    refused_begun script (fault.ImageTooLarge n) reads faulty = inl (λ told. (reads told tt).0)
    refused_begun script (fault.EpochEnd n) reads faulty = inl (λ told. (reads told tt).0)

    -- why no store was opened is why the program ends so
    pub refused_end : (f : OpenFault) → (IsTrue tells → IsOpenAnswer z o terms.game (Err f)) → IsPlayEnd terms (passage tells old new before after) (status_of_opening f)
    refused_end fault.NoMemory answer = tt
    refused_end fault.DiskFault answer = tt
    refused_end (fault.NotAStore side at) answer = answer
    refused_end (fault.WrongGame found) answer = answer
    refused_end (fault.Damaged side at) answer = answer
    refused_end (fault.ImageTooLarge n) answer = answer
    refused_end (fault.EpochEnd n) answer = answer

-- a store of the game is refused by a device alone
pub refused_limit : (d : DurableWorld) (f : OpenFault) → IsWorldOrDevice d (Err f) → IsOkOrLimit (status_of_opening f)
refused_limit d fault.NoMemory is = tt
refused_limit d fault.DiskFault is = tt
refused_limit d (fault.NotAStore side at) is = absurd is
refused_limit d (fault.WrongGame found) is = absurd is
refused_limit d (fault.Damaged side at) is = absurd is
refused_limit d (fault.ImageTooLarge n) is = absurd is
refused_limit d (fault.EpochEnd n) is = absurd is
