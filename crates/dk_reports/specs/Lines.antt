-- What `check` and `inspect` write, by the bytes of a store's two files.
use Rattle.std.specs.Prelude.{◌≡◌, ◌⊎◌, ℕ, ◌+◌, List, ◌++◌, Option, Some, None, codes, decimal}
use Rattle.dk_types.specs.declared.side.Side.{Side}
use Rattle.dk_model.specs.DurableWorlds.{DurableWorld}
use Rattle.dk_model.specs.Images.{world_lists}
use Rattle.dk_model.specs.Stores.{StoreHeader, header_spelling, end_of, StandsOn, standing}
use Rattle.dk_model.specs.Recovered.{HoldsWorld, file_on, Recovers, NotYet, HasDurable}
use Rattle.dk_inspect.specs.Texts.{world_text}
use Rattle.dk_journal.specs.declared.journal.Journal.{Journal}
use Rattle.dk_recover.specs.Recovery.{IsOurs}

-- the line for a store with so many commits, whose journal has so many bytes
abbrev pub ok_line : ℕ → ℕ → List ℕ
ok_line commits bytes = codes "ok " ++ (decimal commits ++ (codes " commits " ++ (decimal bytes ++ codes " bytes\n")))

-- the line where there is no store yet
abbrev pub empty_line : List ℕ
empty_line = codes "empty\n"

-- THE STORE of this game that two files hold: the header that stands names the game, the file under it has this world, and its journal ends right behind the closed gate that ends its records, whatever the file has behind that.
pub record HoldsStore (zero one game : List ℕ) (d : DurableWorld) (bytes : ℕ) : Type 0 where
  pub side : Side
  pub header : StoreHeader
  pub stands : standing zero one ≡ StandsOn side header
  pub ours : header.game ≡ game
  pub holds : HoldsWorld (file_on side zero one) header d
  pub journal : bytes ≡ end_of (header_spelling header) holds.payloads + 1

-- what `check` writes of two files, for this game: the commits and the journal's length of the store that they hold, or that there is none yet
abbrev pub IsCheckLine : List ℕ → List ℕ → List ℕ → List ℕ → Type 0
IsCheckLine zero one game line =
    (Recovers zero one NotYet × (line ≡ empty_line))
    ⊎ ((d : DurableWorld) × (bytes : ℕ) × HoldsStore zero one game d bytes × (line ≡ ok_line d.commits bytes))

-- what `inspect` writes of two files, for this game: the text of the durable world that they hold, the empty one where there is no store yet
abbrev pub IsInspectLine : List ℕ → List ℕ → List ℕ → List ℕ → Type 0
IsInspectLine zero one game line =
    IsOurs zero one game × ((d : DurableWorld) × HasDurable zero one d × (line ≡ world_text game (world_lists d)))

-- the line of a journal that was found, or of none
abbrev pub line_of : ℕ → Option Journal → List ℕ
line_of commits None = empty_line
line_of commits (Some journal) = ok_line commits journal.length
