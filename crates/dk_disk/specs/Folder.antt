-- What a home in a folder knows of its files.
use Rattle.std.specs.Prelude.{ℕ, Option}
use Rattle.dk_types.specs.declared.side.Side.{Side}
use Rattle.dk_types.specs.declared.side.Side.TheVariants.{Zero, One}
use Rattle.dk_disk.specs.declared.folder_home.Lengths.{Lengths}

-- the length of a file, where it is known
abbrev pub known_of : Lengths → Side → Option ℕ
known_of lengths Zero = lengths.zero
known_of lengths One = lengths.one
