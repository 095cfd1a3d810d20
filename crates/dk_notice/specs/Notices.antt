-- What a board and its notices say.
use Rattle.std.specs.Prelude.{◌≡◌, ℕ, ◌≤◌, Bool, [], None, Some}
use Rattle.atomic_table.specs.Seated.{TableId}
use Rattle.dk_notice.specs.declared.told.Told.{Told}

-- nothing was told
abbrev pub nothing_told : Told
nothing_told = record { counted = 0; stopped = None }

-- what is told goes on: its count does not fall, and an end stays as it was told
pub record GoesOn (old new : Told) : Type 0 where
  pub counted : old.counted ≤ new.counted
  pub stopped : (n : ℕ) → old.stopped ≡ Some n → new.stopped ≡ Some n

-- which board it is
abbrev pub BoardName : Type 0
BoardName = TableId

-- the name of no board, for what has to have one
abbrev pub no_board : BoardName
no_board = record { words = 0; slots = 0; views_name = 0; atom = 0; block = 0; offset = 0; slot_names = [] }

-- what contracts see of a board: which it is, and what it says
pub record Says : Type 0 where
  pub board : BoardName
  pub told : Told

-- these two together
abbrev pub said_on : BoardName → Told → Says
said_on board told = record { board = board; told = told }

-- what contracts see of a notice: which board it is of, what that said, and whether it is the notice of that count, which one alone is
pub record Said : Type 0 where
  pub board : BoardName
  pub told : Told
  pub first : Bool

-- these together
abbrev pub notice_of : BoardName → Told → Bool → Said
notice_of board told first = record { board = board; told = told; first = first }
