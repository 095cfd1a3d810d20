-- The world: the durable world, and all that a stop loses.
use Rattle.std.specs.Prelude.{ℕ, Bool, false, Option, List, [], ◌∷◌}
use Rattle.std.specs.FinMap.{FinMap}
use Rattle.dk_types.specs.declared.job.Job.{Job}
use Rattle.dk_types.specs.declared.job.Out.{Out}
use Rattle.dk_model.specs.declared.waiting.Waiting.{Waiting}
use Rattle.dk_model.specs.declared.waiting.Waiting.TheVariants.{Login}
use Rattle.dk_model.specs.Keys.{run_cmp, conn_cmp}
use Rattle.dk_model.specs.DurableWorlds.{DurableWorld}

-- a client's connection: its login name, what waits to be run, what waits to be handed, its turn, and the marks of its end
pub record Connection : Type 0 where
  pub name : List ℕ
  pub queue : List Waiting
  pub outbox : List Out
  pub turn : ℕ
  pub closed : Bool
  pub cut : Bool
  pub over : Bool

-- a run that was claimed: by which pass, for what, and at which moment
pub record Claim : Type 0 where
  pub pass : ℕ
  pub job : Job
  pub at : ℕ

-- how many claims a budget has granted, and how many it has left
pub record Budget : Type 0 where
  pub granted : ℕ
  pub left : ℕ

-- a durable world, and what a server has in memory beside it
pub record World : Type 0 where
  pub durable : DurableWorld
  pub moment : ℕ
  -- runs and connections draw their numbers from this counter
  pub next : ℕ
  pub budget : Option Budget
  -- whether the last claim was of a durable task
  pub after_task : Bool
  pub claims : FinMap run_cmp Claim
  pub connections : FinMap conn_cmp Connection

-- a connection as Connect makes it: its login waits
abbrev pub new_connection : List ℕ → ℕ → Connection
new_connection name turn = record { name = name; queue = Login ∷ []; outbox = []; turn = turn; closed = false; cut = false; over = false }
