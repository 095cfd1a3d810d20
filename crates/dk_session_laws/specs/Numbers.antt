-- The numbers that sessions are recorded with: which come, and which go.
use Rattle.std.specs.Prelude.{◌≡◌, ◌⊎◌, ℕ, ◌<◌, length}
use Rattle.dk_types.specs.declared.job.Session.{Session}
use Rattle.dk_types.specs.declared.job.Job.{Job}
use Rattle.dk_types.specs.declared.job.Job.TheVariants as job
use Rattle.dk_types.specs.declared.number.ObjectId.{ObjectId}
use Rattle.dk_types.specs.Fields.{IsU64}
use Rattle.dk_model.specs.declared.records.SessionRecord.{SessionRecord}
use Rattle.dk_model.specs.DurableWorlds.{DurableWorld}
use Rattle.dk_model.specs.Validity.{next_of}
use Rattle.dk_model.specs.Runs.{Run}
use Rattle.dk_session_laws.specs.Sessions.{IsRecord, SessionsStand, IsStanding}

-- a session is recorded with this number
abbrev pub HasNumber : DurableWorld → ℕ → Type 0
HasNumber d n = (id : ObjectId) × (r : SessionRecord) × IsRecord d id r × (r.conn.0 ≡ n)

-- from s to t a run led to sessions that stand, and to no numbers but those of before and these
pub record IsLed (New : ℕ → Type 0) (s t : Run) : Type 0 where
  pub stands : IsStanding t
  pub last : t.world.last ≡ s.world.last
  pub numbers : (n : ℕ) → HasNumber t.world n → HasNumber s.world n ⊎ New n

-- no number
abbrev pub NoNumber : ℕ → Type 0
NoNumber n = ⊥

-- what is asked of a session whose record is opened: its number was drawn, and no record has it
pub record MayOpen (s : Run) (session : Session) : Type 0 where
  pub long : 0 < length session.name
  pub number : IsU64 session.conn.0
  pub below : session.conn.0 < next_of s.world.last
  pub new : HasNumber s.world session.conn.0 → ⊥

-- the number of the session that a job opens
abbrev pub Opens : Job → ℕ → Type 0
Opens (job.Login conn name) n = n ≡ conn.0
Opens job.Initialize n = ⊥
Opens (job.Message conn name body) n = ⊥
Opens (job.Channel conn name channel body) n = ⊥
Opens (job.Disconnect conn name graceful) n = ⊥
Opens (job.Task key due period kind arg) n = ⊥

-- a login's number is below this one, and no record has it
abbrev pub MayBegin : DurableWorld → ℕ → Job → Type 0
MayBegin d next (job.Login conn name) = (conn.0 < next) × (HasNumber d conn.0 → ⊥)
MayBegin d next job.Initialize = Unit {0}
MayBegin d next (job.Message conn name body) = Unit {0}
MayBegin d next (job.Channel conn name channel body) = Unit {0}
MayBegin d next (job.Disconnect conn name graceful) = Unit {0}
MayBegin d next (job.Task key due period kind arg) = Unit {0}

-- from the one durable world to the other a job led to sessions that stand, and to no number but the one that it opens
pub record LeadsTo (d : DurableWorld) (j : Job) (after : DurableWorld) : Type 0 where
  pub stands : SessionsStand after
  pub numbers : (n : ℕ) → HasNumber after n → HasNumber d n ⊎ Opens j n
