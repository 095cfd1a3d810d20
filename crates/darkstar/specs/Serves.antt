-- What `serve` does, by what its words ask for.
use Rattle.std.specs.Prelude.{⊤, ℕ, ◌+◌, List, Option, None, false, Result, Ok, Err}
use Rattle.dk_edge.specs.Listening.{Listening}
use Rattle.dk_command.specs.Games.{word_of}
use Rattle.dk_command.specs.Requests.{Asks, Serves, Serving}
use Rattle.dk_status.specs.declared.status.Status.{Status}
use Rattle.dk_status.specs.declared.status.Status.TheVariants as status
use Rattle.darkstar.specs.declared.serve.verdict.ServeFault.{ServeFault}
use Rattle.darkstar.specs.declared.serve.verdict.ServeFault.TheVariants as fault
use Rattle.darkstar.specs.Games.{rules_of}
use Rattle.darkstar.specs.Runs.{IsOpenable, IsPlayEnd, Passage, PlayTerms}
use Rattle.darkstar.specs.Served.{IsAllServed, IsBoundAt, links_of}

-- where the words ask for a server, this holds of it
abbrev pub ForServe : List (List ℕ) → (Serving → Type 0) → Type 0
ForServe words P = (serve : Serving) → Asks words (Serves serve) → P serve

-- how it goes: with any number of runs, and as by several workers, since beside them others run jobs at first and tell the time, and a fault of theirs may be told first
abbrev pub service_of : Serving → PlayTerms
service_of serve = record { game = word_of serve.game; rules = rules_of serve.game; budget = None; workers = serve.workers + 2; checkpoint = false }

-- how the program ends after a server
abbrev pub status_of_serving : Result (Unit {0}) ServeFault → Status
status_of_serving (Ok done) = status.Ok
status_of_serving (Err fault.NoMemory) = status.NoMemory
status_of_serving (Err fault.DiskFault) = status.DiskFault
status_of_serving (Err (fault.JournalFull length)) = status.JournalFull length
status_of_serving (Err fault.NetFault) = status.NetFault
status_of_serving (Err (fault.Exhausted next)) = status.Exhausted next

-- IT SERVED: its listener is bound to the port, each link that it gave was served to its end, and they are as many as there were to be, or it said that no more come
abbrev pub HasServedAll : ℕ → Option ℕ → ℕ → Listening → Listening → Type 0
HasServedAll port sessions served old new = IsBoundAt port new × IsAllServed old.given (links_of sessions) served new

-- WHY A SERVER ENDS SO: a refusal of the store by the bytes of both files; behind those the end of a journal or of numbers
abbrev pub IsServeEnd : PlayTerms → Passage → Status → Type 0
IsServeEnd terms home status.Ok = IsOpenable terms home
IsServeEnd terms home (status.NotAStore side at) = IsPlayEnd terms home (status.NotAStore side at)
IsServeEnd terms home (status.Damaged side at) = IsPlayEnd terms home (status.Damaged side at)
IsServeEnd terms home (status.WrongGame found) = IsPlayEnd terms home (status.WrongGame found)
IsServeEnd terms home (status.MigrateTooLarge n) = IsPlayEnd terms home (status.MigrateTooLarge n)
IsServeEnd terms home (status.MigrateEpochEnd epoch) = IsPlayEnd terms home (status.MigrateEpochEnd epoch)
IsServeEnd terms home (status.JournalFull n) = IsPlayEnd terms home (status.JournalFull n)
IsServeEnd terms home (status.Exhausted next) = IsPlayEnd terms home (status.Exhausted next)
IsServeEnd terms home status.NetFault = IsOpenable terms home
IsServeEnd terms home status.NoMemory = ⊤
IsServeEnd terms home status.DiskFault = ⊤
IsServeEnd terms home status.Usage = ⊥
IsServeEnd terms home status.ReadFault = ⊥
IsServeEnd terms home status.WriteFault = ⊥
IsServeEnd terms home (status.BadScript line) = ⊥
IsServeEnd terms home (status.Budget granted) = ⊥

-- done, or a fault that neither the words nor the files decide
abbrev pub IsServedOrLimit : Status → Type 0
IsServedOrLimit status.Ok = ⊤
IsServedOrLimit status.NoMemory = ⊤
IsServedOrLimit status.DiskFault = ⊤
IsServedOrLimit status.NetFault = ⊤
IsServedOrLimit (status.JournalFull length) = ⊤
IsServedOrLimit (status.Exhausted next) = ⊤
IsServedOrLimit other = ⊥

-- done, or an end of the journal or the numbers
abbrev pub IsServedOrEnd : Status → Type 0
IsServedOrEnd status.Ok = ⊤
IsServedOrEnd status.NoMemory = ⊤
IsServedOrEnd (status.JournalFull length) = ⊤
IsServedOrEnd (status.Exhausted next) = ⊤
IsServedOrEnd other = ⊥
