-- What a host is opened with where nobody says.
use Rattle.std.specs.Prelude.{Ok, None, []}
use Rattle.dk_disk.specs.Disk.{settled}
use Rattle.dk_disk.specs.DiskHistories.{DiskHistory}
use Rattle.dk_model.specs.DurableWorlds.{empty_world}
use Rattle.dk_model.specs.Legal.{Opened}
use Rattle.dk_model.specs.Runs.{give}

-- a host of nothing: the empty world, and a game that does nothing
abbrev pub nothing_opened : Opened
nothing_opened = record { rules = λ _. give (Ok tt); durable = empty_world; budget = None }

-- two empty files, at the first moment
abbrev pub empty_files : DiskHistory
empty_files = record { clock = 0; disks = λ _ _. settled [] }
