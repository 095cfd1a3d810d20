-- How a file was seen.
use Rattle.std.specs.Prelude.{◌≡◌, ℕ, List}
use Rattle.dk_types.specs.declared.side.Side.{Side}
use Rattle.dk_model.specs.Stores.{look, Blank, Faulty}
use Rattle.dk_journal.specs.Opened.{IsOpened}
use Rattle.dk_recover.specs.declared.standing.FileLook.{FileLook}
use Rattle.dk_recover.specs.declared.standing.FileLook.TheVariants as seen

-- how the file was seen
abbrev pub IsSeen : List ℕ → Side → FileLook → Type 0
IsSeen file side seen.Blank = look file ≡ Blank
IsSeen file side (seen.Live header scan) = IsOpened file side header scan
IsSeen file side (seen.Faulty at) = look file ≡ Faulty at
