-- What a checkpoint is given, and the file that it writes.
use Rattle.std.specs.Prelude.{◌≡◌, ◌⊎◌, ℕ, ◌+◌, true, List, [], ◌∷◌, ◌++◌}
use Rattle.dk_types.specs.declared.side.Side.{Side}
use Rattle.dk_types.specs.declared.durable.Durable.{Durable}
use Rattle.dk_types.specs.Fields.{blob_spelling}
use Rattle.dk_disk.specs.Disk.{Disk, IsImage}
use Rattle.dk_disk.specs.DiskHistories.{DiskHistory}
use Rattle.dk_model.specs.DurableWorlds.{DurableWorld}
use Rattle.dk_model.specs.Validity.{IsValid}
use Rattle.dk_model.specs.Images.{world_lists, image_spelling}
use Rattle.dk_model.specs.Stores.{StoreHeader, header_fields, is_blank}
use Rattle.dk_journal.specs.Moments.{HasSome}
use Rattle.dk_journal.specs.Stores.{HasStore}
use Rattle.dk_journal.specs.declared.journal.Journal.{Journal}

-- The journal stands on this side, as a store with the one world, and the lists are those of the other, which is valid.
pub record IsGiven (past : DiskHistory) (side : Side) (journal : Journal) (lists : Durable) (header : StoreHeader) (payloads : List (List ℕ)) (before given : DurableWorld) : Type 0 where
  pub store : HasStore past side journal header payloads before
  pub listed : world_lists given ≡ lists
  pub valid : IsValid given

-- the header of the new file: the given game's, with the next epoch, in the format that is written
abbrev pub next_header : List ℕ → ℕ → StoreHeader
next_header game epoch = record { game = game; epoch = epoch + 1; format = 2 }

-- the new file behind its gate: its header, an open record with the image, and a closed gate
abbrev pub behind_gate : StoreHeader → List ℕ → List ℕ
behind_gate header image = header_fields header ++ 1 ∷ (blob_spelling image ++ 0 ∷ [])

-- the image of these lists stands alone in a file
abbrev pub only_image : Durable → List (List ℕ)
only_image lists = image_spelling lists ∷ []

-- each image is the file from before, a blank one, or the new one
abbrev pub IsReplacing : List ℕ → List ℕ → Disk → Type 0
IsReplacing old new disk = ((image : List ℕ) → IsImage disk image → (image ≡ old) ⊎ ((is_blank image ≡ true) ⊎ (image ≡ new))) × HasSome disk
