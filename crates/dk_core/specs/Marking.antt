-- What a claim marks, and what is freed when its run has ended or is given back.
use Rattle.std.specs.Prelude.{◌≡◌, ℕ, Bool, true, false, Option, None, Some}
use Rattle.std.specs.FinMap.{FinMap}
use Rattle.dk_types.specs.declared.number.ConnNo.{ConnNo}
use Rattle.dk_types.specs.declared.item.Item.{Item}
use Rattle.dk_types.specs.declared.job.Job.{Job}
use Rattle.dk_types.specs.declared.job.Job.TheVariants as job
use Rattle.dk_types.specs.Keys.{key_cmp}
use Rattle.dk_model.specs.Deliveries.{conn_of, for_conn}
use Rattle.dk_tasks.specs.Tasks.{Kept, with_claim, changed_at}
use Rattle.dk_connections.specs.MarkedConnections.{all_of, change_some, released, with_turn, IsSwept}
use Rattle.dk_core.specs.StampedWorlds.{durable_of, seen_now}
use Rattle.dk_core.specs.declared.choice.Choice.{Choice}
use Rattle.dk_core.specs.declared.choice.Choice.TheVariants as choose
use Rattle.dk_core.specs.declared.world.Core.{Core}

-- whether a task was chosen
abbrev pub is_task : Choice → Bool
is_task choose.First = false
is_task (choose.Task key) = true
is_task (choose.Input conn) = false

-- the connection whose input was chosen
abbrev pub conn_in : Choice → Option ConnNo
conn_in choose.First = None
conn_in (choose.Task key) = None
conn_in (choose.Input conn) = Some conn

-- the tasks, with the one that was chosen marked
abbrev pub tasks_marked : Choice → FinMap key_cmp Kept → FinMap key_cmp Kept
tasks_marked choose.First tasks = tasks
tasks_marked (choose.Task key) tasks = changed_at (with_claim true) key tasks
tasks_marked (choose.Input conn) tasks = tasks

-- the tasks, with the one of this job marked no more
abbrev pub tasks_freed : Job → FinMap key_cmp Kept → FinMap key_cmp Kept
tasks_freed (job.Task key due period kind arg) tasks = changed_at (with_claim false) key tasks
tasks_freed job.Initialize tasks = tasks
tasks_freed (job.Login conn name) tasks = tasks
tasks_freed (job.Message conn name body) tasks = tasks
tasks_freed (job.Channel conn name channel body) tasks = tasks
tasks_freed (job.Disconnect conn name graceful) tasks = tasks

-- what a read answers and sees is as it was, and so are the room, the claims and the moment
pub record IsSame (old new : Core) : Type 0 where
  pub durable : durable_of new.world ≡ durable_of old.world
  pub seen : (item : Item) → seen_now new.world item ≡ seen_now old.world item
  pub room : new.world.room ≡ old.world.room
  pub claims : new.claims ≡ old.claims
  pub moment : new.moment ≡ old.moment

-- a claimed run with this number has the choice
pub record IsMarked (choice : Choice) (run : ℕ) (old new : Core) : Type 0 where
  pub same : IsSame old new
  pub after_task : new.after_task ≡ is_task choice
  pub tasks : new.world.tasks ≡ tasks_marked choice old.world.tasks
  pub linked : new.connections.connections ≡ change_some (conn_in choice) (with_turn run) old.connections.connections
  pub connections : all_of new.connections.connections ≡ for_conn (conn_in choice) (λ c. record c { turn = run }) (all_of old.connections.connections)
  pub swept : IsSwept old.connections.connections → IsSwept new.connections.connections

-- no claimed run has the job
pub record IsFreed (j : Job) (old new : Core) : Type 0 where
  pub same : IsSame old new
  pub after_task : new.after_task ≡ old.after_task
  pub tasks : new.world.tasks ≡ tasks_freed j old.world.tasks
  pub linked : new.connections.connections ≡ change_some (conn_of j) released old.connections.connections
  pub connections : all_of new.connections.connections ≡ all_of old.connections.connections

-- no claimed run has the job, where it is a task; the connections stay
pub record IsTaskFreed (j : Job) (old new : Core) : Type 0 where
  pub same : IsSame old new
  pub after_task : new.after_task ≡ old.after_task
  pub tasks : new.world.tasks ≡ tasks_freed j old.world.tasks
  pub connections : new.connections ≡ old.connections
