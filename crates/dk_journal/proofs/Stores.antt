-- What the store that stands recovers to.
use Rattle.std.proofs.Common.{◌≡◌, inl, ℕ, List, refl, sym, subst}
use Rattle.dk_types.specs.declared.side.Side.{Side}
use Rattle.dk_types.specs.declared.side.Side.TheVariants.{Zero, One}
use Rattle.dk_disk.specs.Disk.{Disk, IsImage, settled}
use Rattle.dk_disk.specs.DiskHistories.{DiskHistory, now, other_side}
use Rattle.dk_disk.proofs.Images.{settled_only}
use Rattle.dk_model.specs.DurableWorlds.{DurableWorld}
use Rattle.dk_model.specs.Stores.{StoreHeader, Reads, header_spelling}
use Rattle.dk_model.specs.Recovered.{file_on}
use Rattle.dk_journal.specs.Recoveries.{AllRecover, IsWorld}
use Rattle.dk_journal.specs.Ranks.{IsLesser}
use Rattle.dk_journal.specs.Stores.{HasStore, AreSettled}
use Rattle.dk_journal.specs.declared.journal.Journal.{Journal}
use Rattle.dk_journal.proofs.Standings.{holding, image_on}

pub twice : (side : Side) → other_side (other_side side) ≡ side
twice Zero = refl
twice One = refl

-- what is true of a side and of the other is true of both
pub both_sides : (P : Side → Type 0) (side : Side) → P side → P (other_side side) → (s : Side) → P s
both_sides P Zero here there Zero = here
both_sides P Zero here there One = there
both_sides P One here there One = here
both_sides P One here there Zero = there

module _ (past : DiskHistory) (side : Side) (journal : Journal) (header : StoreHeader) (payloads : List (List ℕ)) (d : DurableWorld) (store : HasStore past side journal header payloads d) where
  pub store_settled : AreSettled past
  store_settled = both_sides (λ s. now past s ≡ settled (now past s).reads) side store.stands.settled store.outranked.settled

  -- each image, now
  pub store_recovers : AllRecover (IsWorld d) past past.clock
  store_recovers zero one left =
      let mine : file_on side zero one ≡ (now past side).reads = settled_only _ _ (subst (λ (x : Disk). IsImage x (file_on side zero one)) store.stands.settled (image_on side past past.clock zero one left)) in
      let other : file_on (other_side side) zero one ≡ (now past (other_side side)).reads = settled_only _ _ (subst (λ (x : Disk). IsImage x (file_on (other_side side) zero one)) store.outranked.settled (image_on (other_side side) past past.clock zero one left)) in
      (d, inl (holding side zero one header payloads d store.fits (subst (λ (f : List ℕ). Reads f (header_spelling header) payloads) (sym mine) store.stands.reads) store.world (subst (IsLesser header) (sym other) store.outranked.lesser)), refl)
