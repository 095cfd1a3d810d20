-- What the platform does to a run is lawful.
use Rattle.std.specs.Prelude.{◌≡◌, ℕ, ◌<◌, ◌^◌, Bool, All, Option, List}
use Rattle.dk_types.specs.declared.number.ConnNo.{ConnNo}
use Rattle.dk_types.specs.declared.number.ObjectId.{ObjectId}
use Rattle.dk_types.specs.declared.number.TaskKey.{TaskKey}
use Rattle.dk_types.specs.declared.job.Out.{Out}
use Rattle.dk_types.specs.declared.job.Session.{Session}
use Rattle.dk_types.specs.Names.{IsName}
use Rattle.dk_model.specs.declared.records.Delivery.{Delivery}
use Rattle.dk_model.specs.Validity.{IsNumbered}
use Rattle.dk_model.specs.Runs as act
use Rattle.dk_model.specs.Runs.{Run, Act}
use Rattle.dk_model.specs.Platforms as call
use Rattle.dk_model.specs.Lawful.{AlwaysGoesOn, KeepsFit}

-- a run goes on, whatever it is, and one that is fit stays fit
abbrev pub IsLawfulAct : {A : Type 0} → Act A → Type 0
IsLawfulAct act = AlwaysGoesOn act × KeepsFit act

-- the same, but that a fit run stays fit where the needs are met
abbrev pub IsLawfulWhere : {A : Type 0} → Type 0 → Act A → Type 0
IsLawfulWhere Needs act = AlwaysGoesOn act × (Needs → KeepsFit act)

-- each number is a byte
abbrev pub AreBytes : List ℕ → Type 0
AreBytes bytes = All (λ b. b < 256) bytes

-- the mode is the one before
abbrev pub KeepsMode : {A : Type 0} → Act A → Type 0
KeepsMode act = (s : Run) → (act s).1.mode ≡ s.mode

-- the operations on objects, names, tasks and messages
pub record OperationsAreLawful : Type 0 where
  pub get : (id : ObjectId) → IsLawfulAct (act.get id)
  pub create : (kind : ℕ) (bytes : List ℕ) → IsLawfulWhere ((kind < 2 ^ 16) × AreBytes bytes) (act.create kind bytes)
  pub save : (id : ObjectId) (bytes : List ℕ) → IsLawfulWhere (AreBytes bytes) (act.save id bytes)
  pub mark : (id : ObjectId) → IsLawfulAct (act.mark id)
  pub remove : (id : ObjectId) → IsLawfulAct (act.remove id)
  pub bound : (name : List ℕ) → IsLawfulAct (act.bound name)
  pub bind : (name : List ℕ) (id : ObjectId) → IsLawfulWhere (IsName name × IsNumbered id.run id.k) (act.bind name id)
  pub unbind : (name : List ℕ) → IsLawfulAct (act.unbind name)
  pub next_bound : (after : Option (List ℕ)) → IsLawfulAct (act.next_bound after)
  pub schedule : (kind : ℕ) (arg : List ℕ) (delay : ℕ) → IsLawfulWhere ((kind < 2 ^ 16) × AreBytes arg) (act.schedule kind arg delay)
  pub schedule_periodic : (kind : ℕ) (arg : List ℕ) (delay period : ℕ) → IsLawfulWhere ((kind < 2 ^ 16) × AreBytes arg) (act.schedule_periodic kind arg delay period)
  pub cancel : (key : TaskKey) → IsLawfulAct (act.cancel key)
  pub send : (to : ConnNo) (message : Out) → IsLawfulAct (act.send to message)

-- the calls on sessions and channels
pub record CallsAreLawful : Type 0 where
  pub is_connected : (session : Session) → IsLawfulAct (call.is_connected session)
  pub find_session : (name : List ℕ) → IsLawfulAct (call.find_session name)
  pub session_send : (session : Session) (body : List ℕ) → IsLawfulAct (call.session_send session body)
  pub open_record : (session : Session) → IsLawfulWhere (IsName session.name) (call.open_record session)
  pub close_record : (session : Session) → IsLawfulAct (call.close_record session)
  pub create_channel : (name : List ℕ) (listener : Bool) (delivery : Delivery) → IsLawfulWhere (IsName name) (call.create_channel name listener delivery)
  pub get_channel : (name : List ℕ) → IsLawfulAct (call.get_channel name)
  pub join : (name : List ℕ) (session : Session) → IsLawfulWhere (IsName name × IsName session.name) (call.join name session)
  pub leave : (name : List ℕ) (session : Session) → IsLawfulAct (call.leave name session)
  pub leave_all : (name : List ℕ) → IsLawfulAct (call.leave_all name)
  pub members : (name : List ℕ) → IsLawfulAct (call.members name)
  pub channel_send : (name : List ℕ) (sender : Option Session) (body : List ℕ) → IsLawfulAct (call.channel_send name sender body)

-- the calls that act for the platform, whoever makes them, put the mode back
pub record ModesArePutBack : Type 0 where
  pub open_record : (session : Session) → KeepsMode (call.open_record session)
  pub close_record : (session : Session) → KeepsMode (call.close_record session)
  pub create_channel : (name : List ℕ) (listener : Bool) (delivery : Delivery) → KeepsMode (call.create_channel name listener delivery)
  pub join : (name : List ℕ) (session : Session) → KeepsMode (call.join name session)
  pub leave : (name : List ℕ) (session : Session) → KeepsMode (call.leave name session)
  pub leave_all : (name : List ℕ) → KeepsMode (call.leave_all name)
