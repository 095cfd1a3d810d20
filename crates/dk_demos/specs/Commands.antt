-- The commands that a client of the channels may send, and what they do.
use Rattle.std.specs.Prelude.{ℕ, ◌&&◌, not, Bool, Option, Some, None, List, [], ◌∷◌, ◌++◌, length, take, drop, flat_map, nat_lt, nat_eq, Ok, Err, codes, if◌then◌else◌}
use Rattle.std.specs.Str.Lossy.{utf8_valid_len}
use Rattle.dk_types.specs.declared.number.ConnNo.{ConnNo}
use Rattle.dk_types.specs.declared.job.Session.{Session}
use Rattle.dk_types.specs.declared.job.Out.TheVariants as out
use Rattle.dk_types.specs.declared.fault.AppFault.TheVariants as fault
use Rattle.dk_model.specs.Runs.{Act, give, and_then, send}
use Rattle.dk_model.specs.Platforms.{same_name, join, leave, leave_all, members}
use Rattle.dk_model.specs.Records.{is_name_too_long}
use Rattle.dk_channels.specs.Channels.{get_channel}
use Rattle.dk_demos.specs.declared.commands.Command.{Command}
use Rattle.dk_demos.specs.declared.commands.Command.TheVariants as command

-- whether the bytes begin with this front
abbrev pub begins_with : List ℕ → List ℕ → Bool
begins_with front bytes = same_name (take (length front) bytes) front

-- the command whose word and one space a message begins with, and the bytes behind them
unfoldable pub command_of : List ℕ → Option (Command × List ℕ)
command_of body =
    if begins_with (codes "join ") body then Some (command.Join, drop 5 body)
    else if begins_with (codes "leave ") body then Some (command.Leave, drop 6 body)
    else if begins_with (codes "empty ") body then Some (command.Empty, drop 6 body)
    else if begins_with (codes "members ") body then Some (command.Members, drop 8 body)
    else None

-- from 1 to 255 bytes, and UTF-8 from the first to the last
unfoldable pub is_name : List ℕ → Bool
is_name bytes = nat_lt 0 (length bytes) && (not (is_name_too_long bytes) && nat_eq (utf8_valid_len bytes) (length bytes))

-- a name behind one space
abbrev pub after_space : Session → List ℕ
after_space member = 32 ∷ member.name

-- the names of the members, with one space between each two
abbrev pub names_text : List Session → List ℕ
names_text [] = []
names_text (first ∷ others) = first.name ++ flat_map after_space others

-- the client is told who the channel's members are
unfoldable pub tell_members : List ℕ → ConnNo → Act (Unit {0})
tell_members name conn = and_then (members name) (λ all. send conn (out.Message (names_text all)))

-- what each command does with a channel that is there
abbrev pub obey_at : Command → List ℕ → Session → Act (Unit {0})
obey_at command.Join name session = join name session
obey_at command.Leave name session = leave name session
obey_at command.Empty name session = leave_all name
obey_at command.Members name session = tell_members name session.conn

-- the channel of the name is got first
unfoldable pub obey : Command → List ℕ → Session → Act (Unit {0})
obey c name session = and_then (get_channel name) (λ channel. obey_at c channel.name session)

-- bytes that are no name end the run
unfoldable pub obey_bytes : Command → List ℕ → Session → Act (Unit {0})
obey_bytes c bytes session = if is_name bytes then obey c bytes session else give (Err (fault.Game 1))

-- what is no command does nothing
abbrev pub obey_if : Session → Option (Command × List ℕ) → Act (Unit {0})
obey_if session None = give (Ok tt)
obey_if session (Some found) = obey_bytes found.0 found.1 session

-- a client's message
unfoldable pub message : Session → List ℕ → Act (Unit {0})
message session body = obey_if session (command_of body)
