-- Which job a claim takes, what may be posted, and the order of names.
use Rattle.std.specs.Prelude.{◌≡◌, ◌<◌, ℕ, Bool, true, false, Option, Some, None, List, [], ◌∷◌, codes, length}
use Rattle.std.specs.FinMap.{get, from_entries}
use Rattle.dk_types.specs.declared.number.RunNo.{RunNo}
use Rattle.dk_types.specs.declared.number.ConnNo.{ConnNo}
use Rattle.dk_types.specs.declared.job.Job.{Job}
use Rattle.dk_types.specs.declared.job.Job.TheVariants as job
use Rattle.dk_types.specs.declared.job.Input.{Input}
use Rattle.dk_types.specs.declared.job.Input.TheVariants as input
use Rattle.dk_types.specs.declared.event.Event.TheVariants as event
use Rattle.dk_types.specs.declared.event.PostReply.TheVariants as posted
use Rattle.dk_types.specs.Names.{bytes_cmp}
use Rattle.dk_model.specs.declared.waiting.Waiting.TheVariants as waits
use Rattle.dk_model.specs.DurableWorlds.{Task, next_name}
use Rattle.dk_model.specs.Worlds.{World, Connection, Claim}
use Rattle.dk_model.specs.Picks.{runnable, pick}
use Rattle.dk_model.specs.Events.{Meaning, Happens, swept, with_input}
use Rattle.dk_examples.specs.Worked.{run, conn, id, key, Lists, listed}
use Rattle.dk_examples.specs.HistoryRows.{world, of_alice}

-- a task that is due at this moment, and run once
abbrev pub due_at : ℕ → Task
due_at moment = record { due = moment; period = 0; kind = 1; arg = [] }

-- three tasks, of which the first and the last are due together, and the second before them
abbrev pub three_tasks : Lists
three_tasks = record { objects = []; names = []; tasks = (key 1 0, due_at 50) ∷ (key 1 1, due_at 20) ∷ (key 2 0, due_at 50) ∷ [] }

-- that task as a job
abbrev pub once : ℕ → ℕ → ℕ → Job
once number k moment = job.Task (key number k) moment 0 1 []

-- two connections whose login waits, the later one with the lesser turn
abbrev pub two_logins : List (ConnNo × Connection)
two_logins = (conn 3, of_alice (waits.Login ∷ []) [] 9) ∷ (conn 5, of_alice (waits.Login ∷ []) [] 5) ∷ []

-- this moment has come, and the last claim was of a task, or was not
abbrev pub at_moment : ℕ → Bool → World
at_moment moment after_task = world (listed three_tasks 2 (Some (run 2))) moment 10 after_task [] two_logins

-- a due task goes before an input; after a task an input goes first; of tasks the soonest goes, and of inputs the one of the least turn
abbrev pub PicksInTurn : Type 0
PicksInTurn =
    (pick (at_moment 60 false) ≡ Some (once 1 1 20))
    × (pick (at_moment 60 true) ≡ Some (job.Login (conn 5) (codes "alice")))
    × (pick (at_moment 10 false) ≡ Some (job.Login (conn 5) (codes "alice")))
    × (pick (world (listed three_tasks 2 (Some (run 2))) 60 10 true [] []) ≡ Some (once 1 1 20))

-- of tasks that are due together the one of the least key goes
abbrev pub two_due : Lists
two_due = record { objects = []; names = []; tasks = (key 1 0, due_at 50) ∷ (key 2 0, due_at 50) ∷ [] }

-- of two tasks that are due at one moment the one with the lesser key is picked
abbrev pub TiesGoByKey : Type 0
TiesGoByKey = pick (world (listed two_due 2 (Some (run 2))) 50 10 false [] []) ≡ Some (once 1 0 50)

-- nothing that is claimed is runnable: of three tasks and two logins two are left
abbrev pub claims_of : List (RunNo × Claim)
claims_of =
    (run 10, record { pass = 0; job = once 1 1 20; at = 60 }) ∷ (run 11, record { pass = 1; job = job.Login (conn 5) (codes "alice"); at = 60 })
    ∷ (run 12, record { pass = 2; job = once 1 0 50; at = 60 }) ∷ []

-- what is claimed can not be run a second time
abbrev pub ClaimedIsNotRunnable : Type 0
ClaimedIsNotRunnable = runnable (world (listed three_tasks 2 (Some (run 2))) 60 13 true claims_of two_logins) ≡ once 2 0 50 ∷ job.Login (conn 3) (codes "alice") ∷ []

-- where 1,024 inputs wait, the login among them, a message is not taken
abbrev pub FullQueueRefuses : Type 0
FullQueueRefuses =
    (rules : Meaning) (w : World) (conn : ConnNo) (c : Connection) (body : List ℕ) → get w.connections conn ≡ Some c → c.closed ≡ false → length c.queue ≡ 1024
    → Happens rules w (event.Post 0 conn (input.Message body) (posted.QueueFull 1024)) w

-- and where fewer wait, it is
abbrev pub QueueTakes : Type 0
QueueTakes =
    (rules : Meaning) (w : World) (conn : ConnNo) (c : Connection) (body : List ℕ) → get w.connections conn ≡ Some c → c.closed ≡ false → length c.queue < 1024
    → Happens rules w (event.Post 0 conn (input.Message body) posted.Taken) (swept (with_input w conn (input.Message body)))

-- a Disconnect comes on top
abbrev pub DisconnectIsTaken : Type 0
DisconnectIsTaken =
    (rules : Meaning) (w : World) (conn : ConnNo) (c : Connection) (graceful : Bool) → get w.connections conn ≡ Some c → c.closed ≡ false
    → Happens rules w (event.Post 0 conn (input.Disconnect graceful) posted.Taken) (swept (with_input w conn (input.Disconnect graceful)))

-- a connection that is closed takes nothing
abbrev pub ClosedTakesNothing : Type 0
ClosedTakesNothing =
    (rules : Meaning) (w : World) (conn : ConnNo) (c : Connection) (given : Input) → get w.connections conn ≡ Some c → c.closed ≡ true
    → Happens rules w (event.Post 0 conn given posted.Closed) w

-- the next of three names behind this one
abbrev pub after : Option (List ℕ) → Option (List ℕ)
after name = next_name (from_entries {R = bytes_cmp} ((codes "a", id 0 0) ∷ (codes "ab", id 0 1) ∷ (codes "b", id 0 2) ∷ [])) name

-- of the names a, ab and b
abbrev pub NamesInOrder : Type 0
NamesInOrder =
    (after None ≡ Some (codes "a")) × (after (Some (codes "a")) ≡ Some (codes "ab")) × (after (Some (codes "ab")) ≡ Some (codes "b"))
    × (after (Some (codes "b")) ≡ None) × (after (Some (codes "aa")) ≡ Some (codes "ab"))
