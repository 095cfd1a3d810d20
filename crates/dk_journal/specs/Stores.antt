-- The store that stands on a home's two files.
use Rattle.std.specs.Prelude.{◌≡◌, ℕ, List}
use Rattle.dk_types.specs.declared.side.Side.{Side}
use Rattle.dk_disk.specs.Disk.{settled}
use Rattle.dk_disk.specs.DiskHistories.{DiskHistory, now, other_side}
use Rattle.dk_model.specs.DurableWorlds.{DurableWorld}
use Rattle.dk_model.specs.Stores.{StoreHeader, IsHeader, header_spelling}
use Rattle.dk_model.specs.Recovered.{HasWorld}
use Rattle.dk_journal.specs.Standing.{Stands}
use Rattle.dk_journal.specs.Ranks.{IsOutranked}
use Rattle.dk_journal.specs.declared.journal.Journal.{Journal}

-- nothing is pending on either side
abbrev pub AreSettled : DiskHistory → Type 0
AreSettled past = (side : Side) → now past side ≡ settled (now past side).reads

-- THE STORE: under this header the journal stands on this side with these payloads, which have this world; the other file does not stand beside it; and nothing is pending on either side.
pub record HasStore (past : DiskHistory) (side : Side) (journal : Journal) (header : StoreHeader) (payloads : List (List ℕ)) (d : DurableWorld) : Type 0 where
  pub fits : IsHeader header
  pub here : journal.side ≡ side
  pub epoch : journal.epoch ≡ header.epoch
  pub format : journal.format ≡ header.format
  pub stands : Stands side journal.length past (header_spelling header) payloads
  pub outranked : IsOutranked header past (other_side side)
  pub world : HasWorld header payloads d
