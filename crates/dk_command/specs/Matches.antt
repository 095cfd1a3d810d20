-- The values of a command, as `clap` found them.
use Rattle.std.specs.Prelude.{ℕ, Bool, List, Option, Some, None, zero, suc, codes, false}
use Rattle.std.specs.Option.{option_map_or}
use Rattle.std.specs.Str.Parse.{digits_value, without_leading_plus}
use Rattle.std.specs.Str.{bytes_eq}
use Rattle.clap.specs.Words.{Row, Text, first_of, one_of}
use Rattle.dk_command.specs.declared.command.GameName.{GameName}
use Rattle.dk_command.specs.declared.command.GameName.TheVariants as game
use Rattle.dk_command.specs.Games.{game_of_word}

-- the number that a text of digits spells
abbrev pub spelled_number : Text → ℕ
spelled_number text = digits_value 10 (without_leading_plus text)

-- the number of an option, or the other number where the option is not given
unfoldable pub number_or : ℕ → Text → List Row → ℕ
number_or other name rows = option_map_or spelled_number (one_of name rows) other

-- the flag is given
unfoldable pub is_set : Text → List Row → Bool
is_set name rows = option_map_or (bytes_eq (codes "true")) (one_of name rows) false

-- the game of `--game`, or SwordWorld where it is not given; none where it names no game
unfoldable pub game_in : List Row → Option GameName
game_in rows = option_map_or game_of_word (first_of (codes "game") rows) (Some game.SwordWorld)

-- a limit of which 0 means that there is none
abbrev pub limit_of : ℕ → Option ℕ
limit_of zero = None
limit_of (suc n) = Some (suc n)
