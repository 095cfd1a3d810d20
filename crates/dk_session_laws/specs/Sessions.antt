-- When the records of sessions stand in a durable world, and when a run leaves them as they are.
use Rattle.std.specs.Prelude.{◌≡◌, ℕ, ◌<◌, All, Some, List, length, Result, Ok, Err}
use Rattle.std.specs.FinMap.{get}
use Rattle.dk_types.specs.declared.fault.AppFault.{AppFault}
use Rattle.dk_types.specs.declared.job.Job.{Job}
use Rattle.dk_types.specs.declared.mode.Mode.{Mode}
use Rattle.dk_types.specs.declared.mode.Mode.TheVariants.{Game}
use Rattle.dk_types.specs.declared.number.ObjectId.{ObjectId}
use Rattle.dk_types.specs.declared.object.Object.{Object}
use Rattle.dk_types.specs.Fields.{IsU64}
use Rattle.dk_types.specs.Names.{IsName}
use Rattle.dk_model.specs.declared.records.SessionRecord.{SessionRecord}
use Rattle.dk_model.specs.DurableWorlds.{DurableWorld}
use Rattle.dk_model.specs.Validity.{next_of}
use Rattle.dk_model.specs.Records.{SESSION_KIND, session_of, session_name}
use Rattle.dk_model.specs.Runs.{Run, Act}
use Rattle.dk_model.specs.Events.{Meaning}
use Rattle.dk_model.specs.Lawful.{IsForGame}

-- under the id stands this record of a session, whose number was drawn up to the largest committed run
pub record IsRecord (d : DurableWorld) (id : ObjectId) (r : SessionRecord) : Type 0 where
  pub object : Object
  pub there : get d.objects id ≡ Some object
  pub kind : object.kind ≡ SESSION_KIND
  pub read : session_of object.bytes ≡ Some r
  pub number : IsU64 r.conn.0
  pub channels : All IsName r.channels
  pub below : r.conn.0 < next_of d.last

-- Each name of a session leads to its record, each object of the sessions' kind is one's, and no two names have records with one number.
pub record SessionsStand (d : DurableWorld) : Type 0 where
  pub bound : (name : List ℕ) (id : ObjectId) → get d.names (session_name name) ≡ Some id → (0 < length name) × ((r : SessionRecord) × IsRecord d id r)
  pub held : (id : ObjectId) (object : Object) → get d.objects id ≡ Some object → object.kind ≡ SESSION_KIND → (name : List ℕ) × (get d.names (session_name name) ≡ Some id)
  pub apart : (one other : List ℕ) (i j : ObjectId) (x y : SessionRecord) → get d.names (session_name one) ≡ Some i → get d.names (session_name other) ≡ Some j
      → IsRecord d i x → IsRecord d j y → x.conn.0 ≡ y.conn.0 → one ≡ other

-- the same names lead to the same records, but for the channels that these have
pub record SameSessions (a b : DurableWorld) : Type 0 where
  pub last : b.last ≡ a.last
  pub names : (name : List ℕ) → get b.names (session_name name) ≡ get a.names (session_name name)
  pub onward : (id : ObjectId) (r : SessionRecord) → IsRecord a id r → (x : SessionRecord) × IsRecord b id x × (x.conn.0 ≡ r.conn.0)
  pub back : (id : ObjectId) (r : SessionRecord) → IsRecord b id r → (x : SessionRecord) × IsRecord a id x × (x.conn.0 ≡ r.conn.0)
  pub kinds : (id : ObjectId) (object : Object) → get b.objects id ≡ Some object → object.kind ≡ SESSION_KIND → (was : Object) × (get a.objects id ≡ Some was) × (was.kind ≡ SESSION_KIND)

-- what a run is to make next is there not yet
abbrev pub IsFresh : Run → Type 0
IsFresh s = (id : ObjectId) (object : Object) → get s.world.objects id ≡ Some object → id.run ≡ s.number → id.k < s.objects_made

-- a run in whose world the records of sessions stand
pub record IsStanding (s : Run) : Type 0 where
  pub sessions : SessionsStand s.world
  pub fresh : IsFresh s

-- from s to t a run left the sessions as they were
pub record IsKept (s t : Run) : Type 0 where
  pub same : SameSessions s.world t.world
  pub fresh : IsFresh t
  pub mode : t.mode ≡ s.mode

-- of an answer that is no refusal, and the run after it
abbrev pub EndsBy : {A : Type 0} → (A → Run → Type 0) → Result A AppFault → Run → Type 0
EndsBy P (Ok x) t = P x t
EndsBy P (Err fault) t = Unit {0}

-- a step from this run on, where it is not refused, ends so
pub record Ends {A : Type 0} (P : A → Run → Type 0) (s : Run) (act : Act A) : Type 0 where
  pub so : EndsBy P ((act s).0) ((act s).1)

-- a step that leaves the sessions as they were, from this run on
abbrev pub KeepsAt : {A : Type 0} → Run → Act A → Type 0
KeepsAt s act = Ends (λ x t. IsKept s t) s act

-- a step that leaves the sessions as they were, from each run on in which they stand and which has this mode
pub record Keeps {A : Type 0} (mode : Mode) (act : Act A) : Type 0 where
  pub at : (s : Run) → s.mode ≡ mode → IsStanding s → KeepsAt s act

-- rules by which a game, in its own mode and in each job that it may be given, leaves the sessions as they were
abbrev pub KeepSessions : Meaning → Type 0
KeepSessions rules = (job : Job) → IsForGame job → Keeps Game (rules job)
