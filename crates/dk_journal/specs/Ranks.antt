-- Which of two files stands, while one of them is written.
use Rattle.std.specs.Prelude.{◌≡◌, ◌⊎◌, ◌<◌, ℕ, List}
use Rattle.dk_types.specs.declared.side.Side.{Side}
use Rattle.dk_disk.specs.Disk.{settled}
use Rattle.dk_disk.specs.DiskHistories.{DiskHistory, now}
use Rattle.dk_model.specs.Stores.{StoreHeader, look, Blank, Live}

-- blank, or live with a lesser epoch
abbrev pub IsLesser : StoreHeader → List ℕ → Type 0
IsLesser header file = (look file ≡ Blank) ⊎ ((other : StoreHeader) × (look file ≡ Live other) × (other.epoch < header.epoch))

-- nothing is pending on this side, and what it holds does not stand beside a file with this header
pub record IsOutranked (header : StoreHeader) (past : DiskHistory) (side : Side) : Type 0 where
  pub settled : now past side ≡ settled (now past side).reads
  pub lesser : IsLesser header (now past side).reads

-- nothing is pending on this side, and it is blank
pub record IsBlankBeside (past : DiskHistory) (side : Side) : Type 0 where
  pub settled : now past side ≡ settled (now past side).reads
  pub blank : look (now past side).reads ≡ Blank
