-- What a stop leaves of both files of a home: the durable worlds that its images recover to, at one moment and from moment to moment.
use Rattle.std.specs.Prelude.{◌≡◌, ◌⊎◌, ℕ, ◌≤◌, List}
use Rattle.dk_types.specs.declared.side.Side.{Side}
use Rattle.dk_disk.specs.DiskHistories.{DiskHistory, MayLeave}
use Rattle.dk_model.specs.DurableWorlds.{DurableWorld}
use Rattle.dk_model.specs.Recovered.{HasDurable}

-- each image at this moment recovers to a durable world of which this is true; no store yet counts as the empty world
abbrev pub AllRecover : (DurableWorld → Type 0) → DiskHistory → ℕ → Type 0
AllRecover P past t = (zero one : List ℕ) → MayLeave past t zero one → (d : DurableWorld) × HasDurable zero one d × P d

-- some image is there at this moment
abbrev pub HasImage : DiskHistory → ℕ → Type 0
HasImage past t = (zero : List ℕ) × (one : List ℕ) × MayLeave past t zero one

-- HELD: each image at this moment recovers to at least so many commits
abbrev pub IsHeld : DiskHistory → ℕ → ℕ → Type 0
IsHeld past t n = AllRecover (λ d. n ≤ d.commits) past t

-- what is held does not fall from one moment to a later one
abbrev pub HeldNeverFalls : ℕ → DiskHistory → Type 0
HeldNeverFalls start past = (t later n : ℕ) → start ≤ t → t ≤ later → later ≤ past.clock → IsHeld past t n → IsHeld past later n

-- at each moment from this one on, each image recovers to a world of which this is true
abbrev pub RecoverSince : (DurableWorld → Type 0) → ℕ → DiskHistory → Type 0
RecoverSince P start past = (t : ℕ) → start ≤ t → t ≤ past.clock → AllRecover P past t

-- What a call leaves: what was stays, and at each moment since it began each image recovers to a world of which this is true.
pub record Recovering (P : DurableWorld → Type 0) (old new : DiskHistory) : Type 0 where
  pub later : old.clock ≤ new.clock
  pub kept : (t : ℕ) (s : Side) → t ≤ old.clock → new.disks t s ≡ old.disks t s
  pub each : RecoverSince P old.clock new

-- one of these two worlds
abbrev pub IsEither : DurableWorld → DurableWorld → DurableWorld → Type 0
IsEither before after d = (d ≡ before) ⊎ (d ≡ after)

-- this one
abbrev pub IsWorld : DurableWorld → DurableWorld → Type 0
IsWorld world d = d ≡ world
