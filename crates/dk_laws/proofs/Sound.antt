-- What holds of the world after every history.
use Rattle.std.proofs.Common.{◌≡◌, ℕ, ◌+◌, ◌<◌, ◌≤◌, All, Some}
use Rattle.std.specs.FinMap.{get}
use Rattle.std.specs.List.{AllByRecursion}
use Rattle.dk_types.specs.declared.number.RunNo.{RunNo}
use Rattle.dk_types.specs.declared.number.ConnNo.{ConnNo}
use Rattle.dk_types.specs.declared.number.ObjectId.{ObjectId}
use Rattle.dk_types.specs.declared.number.TaskKey.{TaskKey}
use Rattle.dk_types.specs.declared.object.Object.{Object}
use Rattle.dk_types.specs.declared.limits.TheConstants.{NUMBERS_END, MOMENT_MOST_MS}
use Rattle.dk_types.specs.Names.{IsName}
use Rattle.dk_model.specs.declared.waiting.Waiting.{Waiting}
use Rattle.dk_model.specs.declared.waiting.Waiting.TheVariants as waits
use Rattle.dk_model.specs.DurableWorlds.{DurableWorld, Task}
use Rattle.dk_model.specs.Validity.{IsValid, next_of}
use Rattle.dk_model.specs.Worlds.{World, Connection, Claim}
use Rattle.dk_model.specs.Deliveries.{Connections}
use Rattle.dk_model.specs.Finishes.{HasOwnTask}
use Rattle.dk_model.specs.Lawful.{HasShortBody, IsJob, IsInput}
use Rattle.dk_model.proofs.Works.{IsDueBy, IsOwnKey}
use Rattle.dk_laws.proofs.OpenClaims.{TheClaims, open_below}

-- a number that was drawn, and is no open claim's
pub record IsSpent (claims : TheClaims) (next n : ℕ) : Type 0 where
  pub drawn : n < next
  pub closed : (run : RunNo) (claim : Claim) → get claims run ≡ Some claim → run.0 ≡ n → ⊥

-- an input within its limits
abbrev pub IsWaiting : Waiting → Type 0
IsWaiting waits.Login = Unit {0}
IsWaiting (waits.Input posted) = IsInput posted

pub record IsSoundConnection (conn : ConnNo) (c : Connection) : Type 0 where
  pub number : conn.0 < NUMBERS_END
  pub name : IsName c.name
  pub queue : AllByRecursion IsWaiting c.queue
  pub outbox : All HasShortBody c.outbox

abbrev pub AreSound : Connections → Type 0
AreSound all = (conn : ConnNo) (c : Connection) → get all conn ≡ Some c → IsSoundConnection conn c

-- A claim of a job within its limits, whose own task stands as the job has it where it stands, has a number of before, and is no other claim's.
pub record IsSoundClaim (claims : TheClaims) (next : ℕ) (d : DurableWorld) (run : RunNo) (claim : Claim) : Type 0 where
  pub number : run.0 < next
  pub job : IsJob claim.job
  pub due : IsDueBy claim.job claim.at
  pub moment : claim.at ≤ MOMENT_MOST_MS
  pub own : HasOwnTask d claim.job
  pub spent : (key : TaskKey) → IsOwnKey claim.job key → IsSpent claims next key.run.0
  pub alone : (key : TaskKey) (other : RunNo) (c : Claim) → IsOwnKey claim.job key → get claims other ≡ Some c → IsOwnKey c.job key → other ≡ run

-- A world that a history from an opening leads to, where rules are lawful and inputs within their limits. Each number up to the largest committed run stands for at most one commit or one open claim.
pub record IsSound (w : World) : Type 0 where
  pub valid : IsValid w.durable
  pub moment : w.moment ≤ MOMENT_MOST_MS
  pub numbers : w.next ≤ NUMBERS_END
  pub last : next_of w.durable.last ≤ w.next
  pub counted : w.durable.commits + open_below w.claims (next_of w.durable.last) ≤ next_of w.durable.last
  pub objects : (id : ObjectId) (object : Object) → get w.durable.objects id ≡ Some object → IsSpent w.claims w.next id.run.0
  pub tasks : (key : TaskKey) (task : Task) → get w.durable.tasks key ≡ Some task → IsSpent w.claims w.next key.run.0
  pub claims : (run : RunNo) (claim : Claim) → get w.claims run ≡ Some claim → IsSoundClaim w.claims w.next w.durable run claim
  pub connections : AreSound w.connections

-- other connections that are sound do
pub sound_with : {w : World} (all : Connections) → AreSound all → IsSound w → IsSound (record w { connections = all })
sound_with all sound s = record {
  valid = s.valid;
  moment = s.moment;
  numbers = s.numbers;
  last = s.last;
  counted = s.counted;
  objects = s.objects;
  tasks = s.tasks;
  claims = s.claims;
  connections = sound;
}
