-- A command as clauses see it: texts are their bytes, and commands that are done alike stand together.
use Rattle.std.specs.Prelude.{◌≡◌, ◌≤◌, ⊤, ℕ, Bool, List, Option, string_bytes}
use Rattle.clap.specs.Words.{Text}
use Rattle.dk_types.specs.declared.limits.TheConstants.{TASKS_MOST_COUNT}
use Rattle.dk_command.specs.declared.command.GameName.{GameName}
use Rattle.dk_command.specs.declared.command.Command.{Command}
use Rattle.dk_command.specs.declared.command.Command.TheVariants as command
use Rattle.dk_command.specs.Commands.{IsCommandOf}

-- what is told of a store: whether it is whole, or its world
pub data ReportKind : Type 0 where
  Checks : ReportKind
  Inspects : ReportKind

-- `check` or `inspect` of the store in this folder, as one of this game
pub record Report : Type 0 where
  pub kind : ReportKind
  pub dir : List ℕ
  pub game : GameName

-- `play` on the store in this folder
pub record Playing : Type 0 where
  pub dir : List ℕ
  pub game : GameName
  pub workers : ℕ
  pub budget : ℕ
  pub checkpoint : Bool

-- `serve` from the store in this folder
pub record Serving : Type 0 where
  pub dir : List ℕ
  pub port : ℕ
  pub game : GameName
  pub workers : ℕ
  pub clients : ℕ
  pub sessions : Option ℕ

-- `stress` on a world of its own
pub record Stressing : Type 0 where
  pub seed : ℕ
  pub tasks : ℕ
  pub workers : ℕ

-- what is asked for
pub data Request : Type 0 where
  Reports : (report : Report) → Request
  Plays : (play : Playing) → Request
  Serves : (serve : Serving) → Request
  Stresses : (stress : Stressing) → Request

-- what this command asks for
abbrev pub request_of : Command → Request
request_of (command.Play dir game workers budget checkpoint) = Plays (record { dir = string_bytes dir; game = game; workers = workers; budget = budget; checkpoint = checkpoint })
request_of (command.Serve dir port game workers clients sessions) = Serves (record { dir = string_bytes dir; port = port; game = game; workers = workers; clients = clients; sessions = sessions })
request_of (command.Check dir game) = Reports (record { kind = Checks; dir = string_bytes dir; game = game })
request_of (command.Inspect dir game) = Reports (record { kind = Inspects; dir = string_bytes dir; game = game })
request_of (command.Stress seed tasks workers) = Stresses (record { seed = seed; tasks = tasks; workers = workers })

-- the words are a command line that asks for this
abbrev pub Asks : List Text → Request → Type 0
Asks words request = (command : Command) × IsCommandOf words command × (request_of command ≡ request)

-- a `serve` asks for at most 64 workers and 256 clients at one time, and a `stress` for at most as many tasks as one run may plan
abbrev pub AreFew : Command → Type 0
AreFew (command.Play dir game workers budget checkpoint) = ⊤
AreFew (command.Serve dir port game workers clients sessions) = (workers ≤ 64) × (clients ≤ 256)
AreFew (command.Check dir game) = ⊤
AreFew (command.Inspect dir game) = ⊤
AreFew (command.Stress seed tasks workers) = tasks ≤ TASKS_MOST_COUNT
