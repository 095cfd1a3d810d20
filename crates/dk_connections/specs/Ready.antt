-- Which connections' first inputs can be run, and which of them comes first.
use Rattle.std.specs.Prelude.{◌≡◌, ◌<◌, not, Bool, false, length, nat_lt, Option, None, Some}
use Rattle.std.specs.List.{filter}
use Rattle.std.specs.FinMap.{FinMap, entries, get}
use Rattle.dk_types.specs.declared.number.ConnNo.{ConnNo}
use Rattle.dk_types.specs.declared.job.Job.{Job}
use Rattle.dk_model.specs.Keys.{conn_cmp}
use Rattle.dk_model.specs.Worlds.{World}
use Rattle.dk_model.specs.Picks.{least, is_claimed, is_of, mapped, first_job}
use Rattle.dk_connections.specs.MarkedConnections.{MarkedConnection, all_of}
use Rattle.dk_connections.specs.Places.{is_idle}

-- an input waits, and no claimed run has it
abbrev pub is_ready : ConnNo × MarkedConnection → Bool
is_ready e = not (is_idle e.1)

-- by turn alone
abbrev pub is_before : ConnNo × MarkedConnection → ConnNo × MarkedConnection → Bool
is_before a b = nat_lt a.1.connection.turn b.1.connection.turn

-- the ready connection of the least turn, and among equal ones of the least number
abbrev pub least_ready : FinMap conn_cmp MarkedConnection → Option ConnNo
least_ready all = mapped (λ e. e.0) (least is_before (filter is_ready (entries all)))

-- the connection is there, an input waits, and no claimed run has it
abbrev pub IsReadyAt : Option MarkedConnection → Type 0
IsReadyAt None = ⊥
IsReadyAt (Some l) = (l.claimed ≡ false) × (0 < length l.connection.queue)

-- the connection is there, and an input waits
abbrev pub HasInput : Option MarkedConnection → Type 0
HasInput None = ⊥
HasInput (Some l) = 0 < length l.connection.queue

-- the job of the first input of what stands at a number
abbrev pub first_at : ConnNo → Option MarkedConnection → Option Job
first_at conn None = None
first_at conn (Some l) = first_job conn l.connection.name l.connection.queue

-- the job of the first input of a connection, where one is given
abbrev pub job_at : FinMap conn_cmp MarkedConnection → Option ConnNo → Option Job
job_at all None = None
job_at all (Some conn) = first_at conn (get all conn)

-- a world whose connections are these, and whose claimed runs have inputs of just those that are marked
pub record HasConnections (w : World) (all : FinMap conn_cmp MarkedConnection) : Type 0 where
  pub connections : w.connections ≡ all_of all
  pub claims : (conn : ConnNo) (l : MarkedConnection) → get all conn ≡ Some l → is_claimed (is_of conn) w ≡ l.claimed
