-- Outboxes: 4,096 messages wait, and one more cuts the connection.
use Rattle.std.specs.Prelude.{◌≡◌, ℕ, Bool, false, true, Some, List, [], ◌∷◌, ◌++◌, map, length}
use Rattle.std.specs.List.{list_any}
use Rattle.std.specs.FinMap.{get}
use Rattle.dk_types.specs.declared.number.ConnNo.{ConnNo}
use Rattle.dk_types.specs.declared.job.Job.{Job}
use Rattle.dk_types.specs.declared.job.Job.TheVariants as job
use Rattle.dk_types.specs.declared.job.Out.{Out}
use Rattle.dk_types.specs.declared.job.Input.TheVariants as input
use Rattle.dk_types.specs.declared.event.Event.TheVariants as event
use Rattle.dk_model.specs.declared.waiting.Waiting.TheVariants as waits
use Rattle.dk_model.specs.Worlds.{World, Connection}
use Rattle.dk_model.specs.Deliveries.{Connections, delivered, is_close}
use Rattle.dk_model.specs.Events.{Meaning, Happens, outbox}
use Rattle.dk_examples.specs.Worked.{key}

-- an occurrence of some task
abbrev pub some_task : Job
some_task = job.Task (key 0 0) 0 0 1 []

-- each message to this connection
abbrev pub to_one : ConnNo → List Out → List (ConnNo × Out)
to_one conn messages = map (λ m. (conn, m)) messages

-- the connection is neither cut nor over
pub record IsLive (c : Connection) : Type 0 where
  pub uncut : c.cut ≡ false
  pub goes_on : c.over ≡ false

-- a run sends 4,096 messages, none of them Close, to a connection for which none waits: all of them wait, and it is not cut
abbrev pub AsManyWait : Type 0
AsManyWait =
    (all : Connections) (conn : ConnNo) (c : Connection) (messages : List Out) → get all conn ≡ Some c → IsLive c → c.outbox ≡ []
    → length messages ≡ 4096 → list_any is_close messages ≡ false
    → get (delivered some_task (to_one conn messages) all) conn ≡ Some (record c { outbox = messages })

-- where 4,096 wait, one more is dropped, and the connection is cut and closed: the end of its session waits, and what waited to be handed still does
abbrev pub OneMoreCuts : Type 0
OneMoreCuts =
    (all : Connections) (conn : ConnNo) (c : Connection) (message : Out) → get all conn ≡ Some c → IsLive c → length c.outbox ≡ 4096 → c.queue ≡ []
    → get (delivered some_task ((conn, message) ∷ []) all) conn
    ≡ Some (record c { queue = waits.Input (input.Disconnect false) ∷ []; closed = true; cut = true })

-- so it is where the same run sends one more after the 4,096
abbrev pub OneMoreInTheRunCuts : Type 0
OneMoreInTheRunCuts =
    (all : Connections) (conn : ConnNo) (c : Connection) (messages : List Out) (message : Out) → get all conn ≡ Some c → IsLive c → c.outbox ≡ [] → c.queue ≡ []
    → length messages ≡ 4096 → list_any is_close messages ≡ false
    → get (delivered some_task (to_one conn (messages ++ message ∷ [])) all) conn
    ≡ Some (record c { outbox = messages; queue = waits.Input (input.Disconnect false) ∷ []; closed = true; cut = true })

-- what is sent to a connection that was cut is dropped
abbrev pub CutGetsNoMore : Type 0
CutGetsNoMore =
    (all : Connections) (conn : ConnNo) (c : Connection) (message : Out) → get all conn ≡ Some c → c.cut ≡ true
    → get (delivered some_task ((conn, message) ∷ []) all) conn ≡ Some c

-- a hand of 4,096 gives the 4,096 that wait
abbrev pub HandGivesAll : Type 0
HandGivesAll =
    (rules : Meaning) (w after : World) (pass : ℕ) (conn : ConnNo) (outs : List Out) (end : Bool) → length (outbox w conn) ≡ 4096
    → Happens rules w (event.Hand pass conn 4096 outs end) after → outs ≡ outbox w conn
