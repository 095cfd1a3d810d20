-- What each operation, each call and each step does to the sessions.
use Rattle.std.specs.Prelude.{◌≡◌, ℕ, Bool, Option, List}
use Rattle.dk_types.specs.declared.mode.Mode.{Mode}
use Rattle.dk_types.specs.declared.mode.Mode.TheVariants.{Game}
use Rattle.dk_types.specs.declared.number.RunNo.{RunNo}
use Rattle.dk_types.specs.declared.number.ConnNo.{ConnNo}
use Rattle.dk_types.specs.declared.number.ObjectId.{ObjectId}
use Rattle.dk_types.specs.declared.number.TaskKey.{TaskKey}
use Rattle.dk_types.specs.declared.job.Out.{Out}
use Rattle.dk_types.specs.declared.job.Job.{Job}
use Rattle.dk_types.specs.declared.job.Session.{Session}
use Rattle.dk_types.specs.Names.{IsName}
use Rattle.dk_model.specs.declared.records.Delivery.{Delivery}
use Rattle.dk_model.specs.DurableWorlds.{DurableWorld, last_with}
use Rattle.dk_model.specs.Validity.{next_of}
use Rattle.dk_model.specs.Events.{Meaning}
use Rattle.dk_model.specs.Finishes.{IsNew}
use Rattle.dk_model.specs.Lawful.{IsJob}
use Rattle.dk_model.specs.Runs as act
use Rattle.dk_model.specs.Runs.{Run}
use Rattle.dk_model.specs.Platforms as call
use Rattle.dk_model.specs.Steps.{step}
use Rattle.dk_session_laws.specs.Sessions.{SessionsStand, IsStanding, Ends, Keeps, KeepSessions}
use Rattle.dk_session_laws.specs.Numbers.{NoNumber, IsLed, MayOpen, MayBegin, LeadsTo}

-- the operations on objects, names, tasks and messages, in a game's mode
pub record OperationsKeepSessions : Type 0 where
  pub get : (id : ObjectId) → Keeps Game (act.get id)
  pub create : (kind : ℕ) (bytes : List ℕ) → Keeps Game (act.create kind bytes)
  pub save : (id : ObjectId) (bytes : List ℕ) → Keeps Game (act.save id bytes)
  pub mark : (id : ObjectId) → Keeps Game (act.mark id)
  pub remove : (id : ObjectId) → Keeps Game (act.remove id)
  pub bound : (name : List ℕ) → Keeps Game (act.bound name)
  pub bind : (name : List ℕ) (id : ObjectId) → Keeps Game (act.bind name id)
  pub unbind : (name : List ℕ) → Keeps Game (act.unbind name)
  pub next_bound : (after : Option (List ℕ)) → Keeps Game (act.next_bound after)
  pub schedule : (kind : ℕ) (arg : List ℕ) (delay : ℕ) → Keeps Game (act.schedule kind arg delay)
  pub schedule_periodic : (kind : ℕ) (arg : List ℕ) (delay period : ℕ) → Keeps Game (act.schedule_periodic kind arg delay period)
  pub cancel : (key : TaskKey) → Keeps Game (act.cancel key)
  pub send : (to : ConnNo) (message : Out) → Keeps Game (act.send to message)

-- the calls on sessions and channels that a game makes, in any mode
pub record CallsKeepSessions : Type 0 where
  pub is_connected : (mode : Mode) (session : Session) → Keeps mode (call.is_connected session)
  pub find_session : (mode : Mode) (name : List ℕ) → Keeps mode (call.find_session name)
  pub session_send : (mode : Mode) (session : Session) (body : List ℕ) → Keeps mode (call.session_send session body)
  pub create_channel : (mode : Mode) (name : List ℕ) (listener : Bool) (delivery : Delivery) → Keeps mode (call.create_channel name listener delivery)
  pub get_channel : (mode : Mode) (name : List ℕ) → Keeps mode (call.get_channel name)
  pub join : (mode : Mode) (name : List ℕ) (session : Session) → IsName name → Keeps mode (call.join name session)
  pub leave : (mode : Mode) (name : List ℕ) (session : Session) → Keeps mode (call.leave name session)
  pub leave_all : (mode : Mode) (name : List ℕ) → Keeps mode (call.leave_all name)
  pub members : (mode : Mode) (name : List ℕ) → Keeps mode (call.members name)
  pub channel_send : (mode : Mode) (name : List ℕ) (sender : Option Session) (body : List ℕ) → Keeps mode (call.channel_send name sender body)

-- the two that the platform itself makes, for a session that comes or goes
pub record RecordsOpenAndClose : Type 0 where
  pub open_record : (s : Run) (session : Session) → IsStanding s → MayOpen s session → Ends (λ x t. IsLed (λ n. n ≡ session.conn.0) s t) s (call.open_record session)
  pub close_record : (s : Run) (session : Session) → IsStanding s → Ends (λ x t. IsLed NoNumber s t) s (call.close_record session)

-- where the sessions stand, a step by rules that keep them leads to a world in which they do, and opens at most its own login's number
abbrev pub StepsLead : Type 0
StepsLead =
    (rules : Meaning) (j : Job) (run : RunNo) (at : ℕ) (d : DurableWorld) → KeepSessions rules → SessionsStand d → IsJob j → IsNew d run → MayBegin d (next_of (last_with d.last run)) j
    → LeadsTo d j (step rules j run at d).world
