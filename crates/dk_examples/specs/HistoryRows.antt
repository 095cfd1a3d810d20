-- Histories: which jobs are claimed and when, what is committed, and what is handed.
use Rattle.std.specs.Prelude.{ℕ, Bool, true, false, Some, None, List, [], ◌∷◌}
use Rattle.std.specs.FinMap.{from_entries}
use Rattle.dk_types.specs.declared.number.RunNo.{RunNo}
use Rattle.dk_types.specs.declared.number.ConnNo.{ConnNo}
use Rattle.dk_types.specs.declared.job.Job.{Job}
use Rattle.dk_types.specs.declared.job.Job.TheVariants as job
use Rattle.dk_types.specs.declared.job.Out.{Out}
use Rattle.dk_types.specs.declared.job.Out.TheVariants as out
use Rattle.dk_types.specs.declared.fault.Outcome.TheVariants as outcome
use Rattle.dk_types.specs.declared.event.Event.{Event}
use Rattle.dk_types.specs.declared.event.Event.TheVariants as event
use Rattle.dk_types.specs.declared.event.ConnectReply.TheVariants as connected
use Rattle.dk_types.specs.declared.event.ClaimReply.TheVariants as claimed
use Rattle.dk_model.specs.declared.waiting.Waiting.{Waiting}
use Rattle.dk_model.specs.DurableWorlds.{DurableWorld, empty_world}
use Rattle.dk_model.specs.Worlds.{World, Connection, Claim}
use Rattle.dk_model.specs.Histories.{Leads}
use Rattle.dk_model.specs.Openings.{opening}
use Rattle.dk_examples.specs.Worked.{run, conn, accepting, listed, nothing}
use Rattle.dk_examples.specs.TimerGame.{timer_rules}
use Rattle.dk_examples.specs.TimerRows.{occurrence, counted}
use Rattle.dk_examples.specs.SessionRows.{alice, with_alice, with_alice_again}

-- a world without a budget, by its moment, its next number, whether the last claim was of a task, its claims and its connections
abbrev pub world : DurableWorld → ℕ → ℕ → Bool → List (RunNo × Claim) → List (ConnNo × Connection) → World
world durable moment next after_task claims connections = record {
  durable = durable;
  moment = moment;
  next = next;
  budget = None;
  after_task = after_task;
  claims = from_entries claims;
  connections = from_entries connections;
}

-- a connection of alice that goes on, with what waits to be run, what waits to be handed, and its turn
abbrev pub of_alice : List Waiting → List Out → ℕ → Connection
of_alice queue outbox turn = record { name = alice; queue = queue; outbox = outbox; turn = turn; closed = false; cut = false; over = false }

-- the events of one pass
abbrev pub claim : ℕ → ℕ → Job → Event
claim number at job = event.Claim 0 (claimed.Granted (run number) at job)

-- a claim that gets nothing
abbrev pub idle : Event
idle = event.Claim 0 claimed.Nothing

-- the run ends well, as this commit
abbrev pub commit : ℕ → ℕ → Event
commit number seq = event.Commit 0 (run number) seq outcome.Ok

-- a Connect that gets this number
abbrev pub connect : ℕ → Event
connect number = event.Connect 0 alice (connected.Number (conn number))

-- the task is claimed once its moment has come, and never twice
abbrev pub timer_events : List Event
timer_events =
    claim 0 0 job.Initialize ∷ idle ∷ commit 0 1 ∷ idle
    ∷ event.Tick 0 350 ∷ claim 1 350 (occurrence 100) ∷ idle ∷ commit 1 2 ∷ idle
    ∷ event.Tick 0 400 ∷ claim 2 400 (occurrence 400) ∷ commit 2 3 ∷ idle
    ∷ event.Tick 0 500 ∷ claim 3 500 (occurrence 500) ∷ commit 3 4 ∷ idle ∷ []

-- the timer's three occurrences, from the empty world to the counted one
abbrev pub TimerHistory : Type 0
TimerHistory = Leads timer_rules (opening empty_world None) timer_events (world (listed counted 4 (Some (run 3))) 500 4 true [] [])

-- a second login under a connected name: the first one's connection is gone once its messages are handed
abbrev pub second_login_events : List Event
second_login_events =
    claim 0 0 job.Initialize ∷ commit 0 1
    ∷ connect 1 ∷ claim 2 0 (job.Login (conn 1) alice) ∷ commit 2 2
    ∷ connect 3 ∷ claim 4 0 (job.Login (conn 3) alice) ∷ commit 4 3 ∷ idle
    ∷ event.Hand 0 (conn 1) 1 (out.Accepted ∷ []) false ∷ event.Hand 0 (conn 1) 1 (out.Close ∷ []) true
    ∷ event.Hand 0 (conn 3) 1 (out.Accepted ∷ []) false ∷ []

-- two logins of one name, the second of which displaces the first
abbrev pub SecondLoginHistory : Type 0
SecondLoginHistory = Leads accepting (opening empty_world None) second_login_events (world (listed with_alice_again 3 (Some (run 4))) 0 5 false [] ((conn 3, of_alice [] [] 4) ∷ []))

-- after a stop alice's recorded session is told of its end by the first run that is claimed, and is gone then
abbrev pub restart_events : List Event
restart_events = claim 3 0 (job.Disconnect (conn 1) alice false) ∷ commit 3 3 ∷ idle ∷ []

-- a restart with one session recorded, whose Disconnect is run
abbrev pub RestartHistory : Type 0
RestartHistory = Leads accepting (opening (listed with_alice 2 (Some (run 2))) None) restart_events (world (listed nothing 3 (Some (run 3))) 0 4 false [] [])
