-- The games that are shipped, by their words.
use Rattle.std.specs.Prelude.{ℕ, List, Option, Some, None, codes, if◌then◌else◌}
use Rattle.std.specs.Str.{bytes_eq}
use Rattle.dk_command.specs.declared.command.GameName.{GameName}
use Rattle.dk_command.specs.declared.command.GameName.TheVariants as game

-- the word that names a game
abbrev pub word_of : GameName → List ℕ
word_of game.SwordWorld = codes "sword-world"
word_of game.Timer = codes "timer"
word_of game.Channels = codes "channels"

-- the game that a word names, if it is the word of one
abbrev pub game_of_word : List ℕ → Option GameName
game_of_word word = if bytes_eq word (codes "sword-world") then Some game.SwordWorld
    else (if bytes_eq word (codes "timer") then Some game.Timer
    else (if bytes_eq word (codes "channels") then Some game.Channels else None))
