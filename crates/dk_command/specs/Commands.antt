-- The command line: which words are one, and of which command.
use Rattle.std.specs.Prelude.{◌≡◌, Bool, true, List, [], Option, Some, IsSome, codes, string_bytes}
use Rattle.std.specs.Prelude.{option_and_then, slice_get, Result, Ok, Err}
use Rattle.std.specs.List.{list_any}
use Rattle.std.specs.Option.{IsSomeAnd}
use Rattle.std.specs.Str.{bytes_eq}
use Rattle.clap.specs.Words.{App, Row, Text, fault_of, first_of, matches_of}
use Rattle.dk_command.specs.declared.command.Command.{Command}
use Rattle.dk_command.specs.declared.command.Command.TheVariants.{Play, Serve, Check, Inspect, Stress}
use Rattle.dk_command.specs.declared.parse.CommandRefused.{CommandRefused}
use Rattle.dk_command.specs.declared.parse.CommandRefused.TheVariants.{Usage, NoMemory}
use Rattle.dk_command.specs.Grammar.{app_named, check_app, inspect_app, play_app, serve_app}
use Rattle.dk_command.specs.Grammar.{stress_app}
use Rattle.dk_command.specs.Matches.{game_in, is_set, limit_of, number_or}

-- the subcommand takes `--game`
abbrev pub has_game : App → Bool
has_game app = list_any (λ r. bytes_eq r.id (codes "game")) app.top.rules

-- `clap` finds no fault in the words, of which the first is the subcommand's name, and the word of `--game`, where there is
-- such an option and it is given, names a game
unfoldable pub IsTaken : List Text → App → Type 0
IsTaken words app = (fault_of app words ≡ [])
    × (has_game app ≡ true → IsSome (game_in (matches_of app words)))

-- what the subcommand that the first word names takes; none where there is no first word, or it names no subcommand
abbrev pub app_of_words : List Text → Option App
app_of_words words = option_and_then app_named (slice_get words 0)

-- the first word names a subcommand, and the words after it are taken
unfoldable pub IsCommandLine : List Text → Type 0
IsCommandLine words = IsSomeAnd (app_of_words words) (IsTaken words)

-- what the subcommand of this command takes
abbrev pub app_of_command : Command → App
app_of_command (Play dir game workers budget checkpoint) = play_app
app_of_command (Serve dir port game workers clients sessions) = serve_app
app_of_command (Check dir game) = check_app
app_of_command (Inspect dir game) = inspect_app
app_of_command (Stress seed tasks workers) = stress_app

-- the values of the command are those that `clap` found, and the defaults where nothing was given
abbrev pub HasValues : List Row → Command → Type 0
HasValues rows (Play dir game workers budget checkpoint) =
    (first_of (codes "DIR") rows ≡ Some (string_bytes dir)) × (game_in rows ≡ Some game)
    × (workers ≡ number_or 1 (codes "workers") rows)
    × (budget ≡ number_or 1000000 (codes "budget") rows)
    × (checkpoint ≡ is_set (codes "checkpoint") rows)
HasValues rows (Serve dir port game workers clients sessions) =
    (first_of (codes "DIR") rows ≡ Some (string_bytes dir))
    × (port ≡ number_or 0 (codes "port") rows) × (game_in rows ≡ Some game)
    × (workers ≡ number_or 2 (codes "workers") rows)
    × (clients ≡ number_or 16 (codes "clients") rows)
    × (sessions ≡ limit_of (number_or 0 (codes "sessions") rows))
HasValues rows (Check dir game) =
    (first_of (codes "DIR") rows ≡ Some (string_bytes dir)) × (game_in rows ≡ Some game)
HasValues rows (Inspect dir game) =
    (first_of (codes "DIR") rows ≡ Some (string_bytes dir)) × (game_in rows ≡ Some game)
HasValues rows (Stress seed tasks workers) =
    (seed ≡ number_or 1 (codes "seed") rows) × (tasks ≡ number_or 1000 (codes "tasks") rows)
    × (workers ≡ number_or 1 (codes "workers") rows)

-- the words are a command line, and of this command
unfoldable pub IsCommandOf : List Text → Command → Type 0
IsCommandOf words command = IsCommandLine words
    × (app_of_words words ≡ Some (app_of_command command))
    × HasValues (matches_of (app_of_command command) words) command

-- the answer is right for words of which the first names the subcommand with this grammar; want of memory may always come
unfoldable pub IsAnswerOf : App → List Text → Result Command CommandRefused → Type 0
IsAnswerOf app words (Ok command) = IsTaken words app × (app_of_command command ≡ app)
    × HasValues (matches_of app words) command
IsAnswerOf app words (Err Usage) = ¬ IsTaken words app
IsAnswerOf app words (Err NoMemory) = Unit {0}
